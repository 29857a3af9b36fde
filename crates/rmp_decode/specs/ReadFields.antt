-- Which trees of so many fields, each there or missing, are read as which values, by those of the fields' types. Written by tools/tuples.py.
use Rattle.std.specs.Prelude.{Bool, List, Option}
use Rattle.rmp_wire.specs.Msg.{Msg}
use Rattle.rmp_decode.specs.Fields.{Field, Absent, NoField}

abbrev pub reads_2 : {A0 A1 : Type 0} → (Bool → Bool → Msg → A0 → Type 0) → Option A0 → (Bool → Bool → Msg → A1 → Type 0) → Option A1 → Bool → Bool
    → List (Option Msg) → (A0 × (A1 × Unit {0})) → Type 0
reads_2 r0 a0 r1 a1 human lends fs v = Field (λ j. r0 human lends j v.0) (Absent a0 v.0) (Field (λ j. r1 human lends j v.1.0) (Absent a1 v.1.0) NoField) fs

abbrev pub reads_3 : {A0 A1 A2 : Type 0} → (Bool → Bool → Msg → A0 → Type 0) → Option A0 → (Bool → Bool → Msg → A1 → Type 0) → Option A1
    → (Bool → Bool → Msg → A2 → Type 0) → Option A2 → Bool → Bool → List (Option Msg) → (A0 × (A1 × (A2 × Unit {0}))) → Type 0
reads_3 r0 a0 r1 a1 r2 a2 human lends fs v = Field (λ j. r0 human lends j v.0) (Absent a0 v.0)
    (Field (λ j. r1 human lends j v.1.0) (Absent a1 v.1.0) (Field (λ j. r2 human lends j v.1.1.0) (Absent a2 v.1.1.0) NoField)) fs

abbrev pub reads_4 : {A0 A1 A2 A3 : Type 0} → (Bool → Bool → Msg → A0 → Type 0) → Option A0 → (Bool → Bool → Msg → A1 → Type 0) → Option A1
    → (Bool → Bool → Msg → A2 → Type 0) → Option A2 → (Bool → Bool → Msg → A3 → Type 0) → Option A3 → Bool → Bool → List (Option Msg)
    → (A0 × A1 × A2 × A3 × Unit {0}) → Type 0
reads_4 r0 a0 r1 a1 r2 a2 r3 a3 human lends fs v = Field (λ j. r0 human lends j v.0) (Absent a0 v.0)
    (Field (λ j. r1 human lends j v.1) (Absent a1 v.1)
    (Field (λ j. r2 human lends j v.2) (Absent a2 v.2) (Field (λ j. r3 human lends j v.3) (Absent a3 v.3) NoField))) fs

abbrev pub reads_5 : {A0 A1 A2 A3 A4 : Type 0} → (Bool → Bool → Msg → A0 → Type 0) → Option A0 → (Bool → Bool → Msg → A1 → Type 0) → Option A1
    → (Bool → Bool → Msg → A2 → Type 0) → Option A2 → (Bool → Bool → Msg → A3 → Type 0) → Option A3 → (Bool → Bool → Msg → A4 → Type 0) → Option A4 → Bool
    → Bool → List (Option Msg) → (A0 × A1 × A2 × A3 × (A4 × Unit {0})) → Type 0
reads_5 r0 a0 r1 a1 r2 a2 r3 a3 r4 a4 human lends fs v = Field (λ j. r0 human lends j v.0) (Absent a0 v.0)
    (Field (λ j. r1 human lends j v.1) (Absent a1 v.1)
    (Field (λ j. r2 human lends j v.2) (Absent a2 v.2)
    (Field (λ j. r3 human lends j v.3) (Absent a3 v.3) (Field (λ j. r4 human lends j v.4.0) (Absent a4 v.4.0) NoField)))) fs

abbrev pub reads_6 : {A0 A1 A2 A3 A4 A5 : Type 0} → (Bool → Bool → Msg → A0 → Type 0) → Option A0 → (Bool → Bool → Msg → A1 → Type 0) → Option A1
    → (Bool → Bool → Msg → A2 → Type 0) → Option A2 → (Bool → Bool → Msg → A3 → Type 0) → Option A3 → (Bool → Bool → Msg → A4 → Type 0) → Option A4
    → (Bool → Bool → Msg → A5 → Type 0) → Option A5 → Bool → Bool → List (Option Msg) → (A0 × A1 × A2 × A3 × (A4 × (A5 × Unit {0}))) → Type 0
reads_6 r0 a0 r1 a1 r2 a2 r3 a3 r4 a4 r5 a5 human lends fs v = Field (λ j. r0 human lends j v.0) (Absent a0 v.0)
    (Field (λ j. r1 human lends j v.1) (Absent a1 v.1)
    (Field (λ j. r2 human lends j v.2) (Absent a2 v.2)
    (Field (λ j. r3 human lends j v.3) (Absent a3 v.3)
    (Field (λ j. r4 human lends j v.4.0) (Absent a4 v.4.0) (Field (λ j. r5 human lends j v.4.1.0) (Absent a5 v.4.1.0) NoField))))) fs

abbrev pub reads_7 : {A0 A1 A2 A3 A4 A5 A6 : Type 0} → (Bool → Bool → Msg → A0 → Type 0) → Option A0 → (Bool → Bool → Msg → A1 → Type 0) → Option A1
    → (Bool → Bool → Msg → A2 → Type 0) → Option A2 → (Bool → Bool → Msg → A3 → Type 0) → Option A3 → (Bool → Bool → Msg → A4 → Type 0) → Option A4
    → (Bool → Bool → Msg → A5 → Type 0) → Option A5 → (Bool → Bool → Msg → A6 → Type 0) → Option A6 → Bool → Bool → List (Option Msg)
    → (A0 × A1 × A2 × A3 × (A4 × (A5 × (A6 × Unit {0})))) → Type 0
reads_7 r0 a0 r1 a1 r2 a2 r3 a3 r4 a4 r5 a5 r6 a6 human lends fs v = Field (λ j. r0 human lends j v.0) (Absent a0 v.0)
    (Field (λ j. r1 human lends j v.1) (Absent a1 v.1)
    (Field (λ j. r2 human lends j v.2) (Absent a2 v.2)
    (Field (λ j. r3 human lends j v.3) (Absent a3 v.3)
    (Field (λ j. r4 human lends j v.4.0) (Absent a4 v.4.0)
    (Field (λ j. r5 human lends j v.4.1.0) (Absent a5 v.4.1.0) (Field (λ j. r6 human lends j v.4.1.1.0) (Absent a6 v.4.1.1.0) NoField)))))) fs

abbrev pub reads_8 : {A0 A1 A2 A3 A4 A5 A6 A7 : Type 0} → (Bool → Bool → Msg → A0 → Type 0) → Option A0 → (Bool → Bool → Msg → A1 → Type 0) → Option A1
    → (Bool → Bool → Msg → A2 → Type 0) → Option A2 → (Bool → Bool → Msg → A3 → Type 0) → Option A3 → (Bool → Bool → Msg → A4 → Type 0) → Option A4
    → (Bool → Bool → Msg → A5 → Type 0) → Option A5 → (Bool → Bool → Msg → A6 → Type 0) → Option A6 → (Bool → Bool → Msg → A7 → Type 0) → Option A7 → Bool
    → Bool → List (Option Msg) → (A0 × A1 × A2 × A3 × (A4 × A5 × A6 × A7 × Unit {0})) → Type 0
reads_8 r0 a0 r1 a1 r2 a2 r3 a3 r4 a4 r5 a5 r6 a6 r7 a7 human lends fs v = Field (λ j. r0 human lends j v.0) (Absent a0 v.0)
    (Field (λ j. r1 human lends j v.1) (Absent a1 v.1)
    (Field (λ j. r2 human lends j v.2) (Absent a2 v.2)
    (Field (λ j. r3 human lends j v.3) (Absent a3 v.3)
    (Field (λ j. r4 human lends j v.4.0) (Absent a4 v.4.0)
    (Field (λ j. r5 human lends j v.4.1) (Absent a5 v.4.1)
    (Field (λ j. r6 human lends j v.4.2) (Absent a6 v.4.2) (Field (λ j. r7 human lends j v.4.3) (Absent a7 v.4.3) NoField))))))) fs

abbrev pub reads_9 : {A0 A1 A2 A3 A4 A5 A6 A7 A8 : Type 0} → (Bool → Bool → Msg → A0 → Type 0) → Option A0 → (Bool → Bool → Msg → A1 → Type 0) → Option A1
    → (Bool → Bool → Msg → A2 → Type 0) → Option A2 → (Bool → Bool → Msg → A3 → Type 0) → Option A3 → (Bool → Bool → Msg → A4 → Type 0) → Option A4
    → (Bool → Bool → Msg → A5 → Type 0) → Option A5 → (Bool → Bool → Msg → A6 → Type 0) → Option A6 → (Bool → Bool → Msg → A7 → Type 0) → Option A7
    → (Bool → Bool → Msg → A8 → Type 0) → Option A8 → Bool → Bool → List (Option Msg) → (A0 × A1 × A2 × A3 × (A4 × A5 × A6 × A7 × (A8 × Unit {0}))) → Type 0
reads_9 r0 a0 r1 a1 r2 a2 r3 a3 r4 a4 r5 a5 r6 a6 r7 a7 r8 a8 human lends fs v = Field (λ j. r0 human lends j v.0) (Absent a0 v.0)
    (Field (λ j. r1 human lends j v.1) (Absent a1 v.1)
    (Field (λ j. r2 human lends j v.2) (Absent a2 v.2)
    (Field (λ j. r3 human lends j v.3) (Absent a3 v.3)
    (Field (λ j. r4 human lends j v.4.0) (Absent a4 v.4.0)
    (Field (λ j. r5 human lends j v.4.1) (Absent a5 v.4.1)
    (Field (λ j. r6 human lends j v.4.2) (Absent a6 v.4.2)
    (Field (λ j. r7 human lends j v.4.3) (Absent a7 v.4.3) (Field (λ j. r8 human lends j v.4.4.0) (Absent a8 v.4.4.0) NoField)))))))) fs

abbrev pub reads_10 : {A0 A1 A2 A3 A4 A5 A6 A7 A8 A9 : Type 0} → (Bool → Bool → Msg → A0 → Type 0) → Option A0 → (Bool → Bool → Msg → A1 → Type 0)
    → Option A1 → (Bool → Bool → Msg → A2 → Type 0) → Option A2 → (Bool → Bool → Msg → A3 → Type 0) → Option A3 → (Bool → Bool → Msg → A4 → Type 0)
    → Option A4 → (Bool → Bool → Msg → A5 → Type 0) → Option A5 → (Bool → Bool → Msg → A6 → Type 0) → Option A6 → (Bool → Bool → Msg → A7 → Type 0)
    → Option A7 → (Bool → Bool → Msg → A8 → Type 0) → Option A8 → (Bool → Bool → Msg → A9 → Type 0) → Option A9 → Bool → Bool → List (Option Msg)
    → (A0 × A1 × A2 × A3 × (A4 × A5 × A6 × A7 × (A8 × (A9 × Unit {0})))) → Type 0
reads_10 r0 a0 r1 a1 r2 a2 r3 a3 r4 a4 r5 a5 r6 a6 r7 a7 r8 a8 r9 a9 human lends fs v = Field (λ j. r0 human lends j v.0) (Absent a0 v.0)
    (Field (λ j. r1 human lends j v.1) (Absent a1 v.1)
    (Field (λ j. r2 human lends j v.2) (Absent a2 v.2)
    (Field (λ j. r3 human lends j v.3) (Absent a3 v.3)
    (Field (λ j. r4 human lends j v.4.0) (Absent a4 v.4.0)
    (Field (λ j. r5 human lends j v.4.1) (Absent a5 v.4.1)
    (Field (λ j. r6 human lends j v.4.2) (Absent a6 v.4.2)
    (Field (λ j. r7 human lends j v.4.3) (Absent a7 v.4.3)
    (Field (λ j. r8 human lends j v.4.4.0) (Absent a8 v.4.4.0) (Field (λ j. r9 human lends j v.4.4.1.0) (Absent a9 v.4.4.1.0) NoField))))))))) fs

abbrev pub reads_11 : {A0 A1 A2 A3 A4 A5 A6 A7 A8 A9 A10 : Type 0} → (Bool → Bool → Msg → A0 → Type 0) → Option A0 → (Bool → Bool → Msg → A1 → Type 0)
    → Option A1 → (Bool → Bool → Msg → A2 → Type 0) → Option A2 → (Bool → Bool → Msg → A3 → Type 0) → Option A3 → (Bool → Bool → Msg → A4 → Type 0)
    → Option A4 → (Bool → Bool → Msg → A5 → Type 0) → Option A5 → (Bool → Bool → Msg → A6 → Type 0) → Option A6 → (Bool → Bool → Msg → A7 → Type 0)
    → Option A7 → (Bool → Bool → Msg → A8 → Type 0) → Option A8 → (Bool → Bool → Msg → A9 → Type 0) → Option A9 → (Bool → Bool → Msg → A10 → Type 0)
    → Option A10 → Bool → Bool → List (Option Msg) → (A0 × A1 × A2 × A3 × (A4 × A5 × A6 × A7 × (A8 × (A9 × (A10 × Unit {0}))))) → Type 0
reads_11 r0 a0 r1 a1 r2 a2 r3 a3 r4 a4 r5 a5 r6 a6 r7 a7 r8 a8 r9 a9 r10 a10 human lends fs v = Field (λ j. r0 human lends j v.0) (Absent a0 v.0)
    (Field (λ j. r1 human lends j v.1) (Absent a1 v.1)
    (Field (λ j. r2 human lends j v.2) (Absent a2 v.2)
    (Field (λ j. r3 human lends j v.3) (Absent a3 v.3)
    (Field (λ j. r4 human lends j v.4.0) (Absent a4 v.4.0)
    (Field (λ j. r5 human lends j v.4.1) (Absent a5 v.4.1)
    (Field (λ j. r6 human lends j v.4.2) (Absent a6 v.4.2)
    (Field (λ j. r7 human lends j v.4.3) (Absent a7 v.4.3)
    (Field (λ j. r8 human lends j v.4.4.0) (Absent a8 v.4.4.0)
    (Field (λ j. r9 human lends j v.4.4.1.0) (Absent a9 v.4.4.1.0) (Field (λ j. r10 human lends j v.4.4.1.1.0) (Absent a10 v.4.4.1.1.0) NoField)))))))))) fs

abbrev pub reads_12 : {A0 A1 A2 A3 A4 A5 A6 A7 A8 A9 A10 A11 : Type 0} → (Bool → Bool → Msg → A0 → Type 0) → Option A0 → (Bool → Bool → Msg → A1 → Type 0)
    → Option A1 → (Bool → Bool → Msg → A2 → Type 0) → Option A2 → (Bool → Bool → Msg → A3 → Type 0) → Option A3 → (Bool → Bool → Msg → A4 → Type 0)
    → Option A4 → (Bool → Bool → Msg → A5 → Type 0) → Option A5 → (Bool → Bool → Msg → A6 → Type 0) → Option A6 → (Bool → Bool → Msg → A7 → Type 0)
    → Option A7 → (Bool → Bool → Msg → A8 → Type 0) → Option A8 → (Bool → Bool → Msg → A9 → Type 0) → Option A9 → (Bool → Bool → Msg → A10 → Type 0)
    → Option A10 → (Bool → Bool → Msg → A11 → Type 0) → Option A11 → Bool → Bool → List (Option Msg)
    → (A0 × A1 × A2 × A3 × (A4 × A5 × A6 × A7 × (A8 × A9 × A10 × A11 × Unit {0}))) → Type 0
reads_12 r0 a0 r1 a1 r2 a2 r3 a3 r4 a4 r5 a5 r6 a6 r7 a7 r8 a8 r9 a9 r10 a10 r11 a11 human lends fs v = Field (λ j. r0 human lends j v.0) (Absent a0 v.0)
    (Field (λ j. r1 human lends j v.1) (Absent a1 v.1)
    (Field (λ j. r2 human lends j v.2) (Absent a2 v.2)
    (Field (λ j. r3 human lends j v.3) (Absent a3 v.3)
    (Field (λ j. r4 human lends j v.4.0) (Absent a4 v.4.0)
    (Field (λ j. r5 human lends j v.4.1) (Absent a5 v.4.1)
    (Field (λ j. r6 human lends j v.4.2) (Absent a6 v.4.2)
    (Field (λ j. r7 human lends j v.4.3) (Absent a7 v.4.3)
    (Field (λ j. r8 human lends j v.4.4.0) (Absent a8 v.4.4.0)
    (Field (λ j. r9 human lends j v.4.4.1) (Absent a9 v.4.4.1)
    (Field (λ j. r10 human lends j v.4.4.2) (Absent a10 v.4.4.2) (Field (λ j. r11 human lends j v.4.4.3) (Absent a11 v.4.4.3) NoField))))))))))) fs
