-- What the recursive type Task is read from and written as, level by level. Written by tools/derive.py.
use Rattle.std.proofs.Common.{◌≡◌, ◌∙◌, refl, sym, ap, subst, ℕ, zero, suc, List, [], ◌∷◌, map, All, Option, None, Some, String, Box}
use Rattle.std.specs.Int.{w16, w32}
use Rattle.std.specs.List.{AllByRecursion}
use Rattle.std.specs.Prelude.{◌<◌, ◌^◌, ⊤, codes, Vec, ℤ, pos, negsuc, FitsSigned, IsUtf8, IfSome, string_bytes}
use Rattle.std.specs.declared.alloc.Global.{Global}
use Rattle.rmp_wire.specs.Msg.{Msg}
use Rattle.rmp_decode.specs.Fields.{OfFields, Field, Absent, NoField}
use Rattle.rmp_decode.specs.Law.{Readable}
use Rattle.rmp_decode.specs.Options.{IsOption}
use Rattle.rmp_decode.specs.Read.{IsUnsigned, IsSigned, IsRaw}
use Rattle.rmp_decode.specs.Rows.{AndThen, NoMore}
use Rattle.rmp_decode.specs.Seq.{OfRow}
use Rattle.rmp_decode.specs.Variants.{OfVariant, Case, NoCase, Bare, Content}
use Rattle.rmp_encode.specs.Data.{Data, whole, text, unit_variant}
use Rattle.rmp_encode.specs.Trees.{tuple_of, slice_of, option_of, tuple_variant_of, struct_variant_of}
use Rattle.rmp_recursive.specs.Parts.{
  Row,
  Boxed,
  InSteps,
  row_as,
  row_in,
  option_as,
  option_in,
  variant_as,
  variant_in,
  of_row_as,
  of_row_in,
  then_as,
  then_in,
  each_holds,
  through,
}
use Rattle.rmp_recursive.specs.Fields.{fields_as, fields_in, field_as, field_in}
use Rattle.test_recursive.specs.declared.tasks.Task.{Task, out-Task}
use Rattle.test_recursive.specs.declared.tasks.TheConstants.{LEAST}
use Rattle.test_recursive.specs.declared.tasks.Task.TheFolds.{ind-Task, fold-Task, rec-Task, map-Task, rec-roll-Task, fold_out-Task}
use Rattle.test_recursive.specs.declared.tasks.Task.TheOpen.{Task-F}
use Rattle.test_recursive.specs.declared.tasks.Task.TheViews.{roll-Task, out-roll-Task, roll-out-Task}
use Rattle.test_recursive.specs.OrderLeaf.{IsOrder, order_data, order_fits}
use Rattle.test_recursive.specs.SpanLeaf.{IsSpan, span_data, span_fits}
use Rattle.test_recursive.specs.declared.tasks.Order.{Order}
use Rattle.test_recursive.specs.declared.tasks.Span.{Span}

abbrev pub task_names : List (List ℕ)
task_names = codes "Idle" ∷ (codes "Move" ∷ (codes "After" ∷ (codes "Wait" ∷ (codes "Run" ∷ []))))

-- ---- what it is read from

-- the values of Move, one after another
abbrev pub TaskRowMove : Msg → ℤ × ℤ → Type 0
TaskRowMove m a = OfRow (AndThen (λ j. IsSigned (negsuc 2147483647) (pos 2147483647) j a.0)
    (AndThen (λ j. IsSigned (negsuc 2147483647) (pos 2147483647) j a.1) NoMore)) m

-- the values of After, one after another
abbrev pub TaskRowAfter : (Msg → Task → Type 0) → Msg → Option (ℕ × ℕ) × Box Task Global → Type 0
TaskRowAfter reads m a = OfRow (AndThen (λ j. IsOption
    (λ j q. OfRow (AndThen (λ k. IsUnsigned 4294967295 k q.0) (AndThen (λ k. IsUnsigned 4294967295 k q.1) NoMore)) j) j a.0)
    (AndThen (λ j. reads j a.1.value) NoMore)) m

-- the fields of Wait, and those from each place on
abbrev pub task_wait_names : List (List ℕ)
task_wait_names = codes "atLeast" ∷ (codes "thenCall" ∷ [])

abbrev pub TaskWaitFrom2 : ℕ × Vec (String Global) Global → List (Option Msg) → Type 0
TaskWaitFrom2 x fs = NoField fs

abbrev pub TaskWaitFrom1 : ℕ × Vec (String Global) Global → List (Option Msg) → Type 0
TaskWaitFrom1 x fs = Field (λ k. Row (λ j q. IsRaw j (string_bytes q)) k x.1.items) (Absent None x.1) (TaskWaitFrom2 x) fs

abbrev pub TaskWaitFrom0 : ℕ × Vec (String Global) Global → List (Option Msg) → Type 0
TaskWaitFrom0 x fs = Field (λ k. IsUnsigned 65535 k x.0) (Absent None x.0) (TaskWaitFrom1 x) fs

abbrev pub TaskWaitFields : List (Option Msg) → ℕ × Vec (String Global) Global → Type 0
TaskWaitFields fs v = TaskWaitFrom0 v fs

abbrev pub TaskWaitRead : Msg → ℕ × Vec (String Global) Global → Type 0
TaskWaitRead m a = OfFields task_wait_names (λ fs. TaskWaitFields fs a) m

-- the fields of Run, and those from each place on
abbrev pub task_run_names : List (List ℕ)
task_run_names = codes "order" ∷ (codes "span" ∷ (codes "least" ∷ (codes "steps" ∷ (codes "otherwise" ∷ []))))

abbrev pub TaskRunFrom5 : (Msg → Task → Type 0) → Order × Span × ℤ × Vec Task Global × Option (Box Task Global) → List (Option Msg) → Type 0
TaskRunFrom5 reads x fs = NoField fs

abbrev pub TaskRunFrom4 : (Msg → Task → Type 0) → Order × Span × ℤ × Vec Task Global × Option (Box Task Global) → List (Option Msg) → Type 0
TaskRunFrom4 reads x fs = Field (λ k. IsOption (Boxed reads) k x.4) (Absent (Some None) x.4) (TaskRunFrom5 reads x) fs

abbrev pub TaskRunFrom3 : (Msg → Task → Type 0) → Order × Span × ℤ × Vec Task Global × Option (Box Task Global) → List (Option Msg) → Type 0
TaskRunFrom3 reads x fs = Field (λ k. Row reads k x.3.items) (Absent None x.3) (TaskRunFrom4 reads x) fs

abbrev pub TaskRunFrom2 : (Msg → Task → Type 0) → Order × Span × ℤ × Vec Task Global × Option (Box Task Global) → List (Option Msg) → Type 0
TaskRunFrom2 reads x fs = Field (λ k. IsSigned (negsuc 32767) (pos 32767) k x.2) (Absent (Some (LEAST)) x.2) (TaskRunFrom3 reads x) fs

abbrev pub TaskRunFrom1 : (Msg → Task → Type 0) → Order × Span × ℤ × Vec Task Global × Option (Box Task Global) → List (Option Msg) → Type 0
TaskRunFrom1 reads x fs = Field (λ k. IsSpan k x.1) (Absent None x.1) (TaskRunFrom2 reads x) fs

abbrev pub TaskRunFrom0 : (Msg → Task → Type 0) → Order × Span × ℤ × Vec Task Global × Option (Box Task Global) → List (Option Msg) → Type 0
TaskRunFrom0 reads x fs = Field (λ k. IsOrder k x.0) (Absent None x.0) (TaskRunFrom1 reads x) fs

abbrev pub TaskRunFields : (Msg → Task → Type 0) → List (Option Msg) → Order × Span × ℤ × Vec Task Global × Option (Box Task Global) → Type 0
TaskRunFields reads fs v = TaskRunFrom0 reads v fs

abbrev pub TaskRunRead : (Msg → Task → Type 0) → Msg → Order × Span × ℤ × Vec Task Global × Option (Box Task Global) → Type 0
TaskRunRead reads m a = OfFields task_run_names (λ fs. TaskRunFields reads fs a) m

abbrev pub TaskCase : (Msg → Task → Type 0) → Task → ℕ × Option Msg → Type 0
TaskCase reads v = Case (λ c. (out-Task v ≡ Task-F.Idle) × Bare c)
    (Case (λ c. (a : ℤ × ℤ) × (out-Task v ≡ Task-F.Move a.0 a.1) × Content (λ k. TaskRowMove k a) c)
    (Case (λ c. (a : Option (ℕ × ℕ) × Box Task Global) × (out-Task v ≡ Task-F.After a.0 a.1) × Content (λ k. TaskRowAfter reads k a) c)
    (Case (λ c. (a : ℕ × Vec (String Global) Global) × (out-Task v ≡ Task-F.Wait a.0 a.1) × Content (λ k. TaskWaitRead k a) c)
    (Case (λ c. (a : Order × Span × ℤ × Vec Task Global × Option (Box Task Global)) × (out-Task v ≡ Task-F.Run a.0 a.1 a.2 a.3 a.4)
    × Content (λ k. TaskRunRead reads k a) c)
    NoCase))))

abbrev pub TaskIn : ℕ → Msg → Task → Type 0
TaskIn zero m v = ⊥
TaskIn (suc n) m v = OfVariant task_names (TaskCase (TaskIn n) v) m

-- in some number of steps the message is read as the value
abbrev pub IsTask : Msg → Task → Type 0
IsTask m v = InSteps TaskIn m v

-- ---- what it is written as: one level, of what its parts are written as

abbrev pub task_level : Task-F (Option Data) → Option Data
task_level Task-F.Idle = Some (unit_variant (codes "Idle"))
task_level (Task-F.Move a0 a1) = tuple_variant_of (codes "Move") (Some (whole a0) ∷ (Some (whole a1) ∷ []))
task_level (Task-F.After a0 a1) = tuple_variant_of (codes "After")
    (option_of (λ (q : ℕ × ℕ). tuple_of (Some (whole (pos q.0)) ∷ (Some (whole (pos q.1)) ∷ []))) a0 ∷ (a1.value ∷ []))
task_level (Task-F.Wait a0 a1) = struct_variant_of (codes "Wait")
    ((codes "atLeast", Some (whole (pos a0))) ∷ ((codes "thenCall", slice_of (map (λ (q : String Global). Some (text (string_bytes q))) a1.items)) ∷ []))
task_level (Task-F.Run a0 a1 a2 a3 a4) = struct_variant_of (codes "Run")
    ((codes "order", order_data a0) ∷ ((codes "span", span_data a1)
    ∷ ((codes "least", Some (whole a2)) ∷ ((codes "steps", slice_of a3.items) ∷ ((codes "otherwise", option_of (λ b. b.value) a4) ∷ [])))))

abbrev pub task_data : Task → Option Data
task_data = fold-Task (Option Data) task_level

-- ---- what is known of a value

abbrev pub task_layer_fits : (X : Type 0) → (X → Task) → (X → Type 0) → Task-F X → Type 0
task_layer_fits X at fits Task-F.Idle = ⊤
task_layer_fits X at fits (Task-F.Move a0 a1) = (FitsSigned w32 a0) × (FitsSigned w32 a1)
task_layer_fits X at fits (Task-F.After a0 a1) = (IfSome a0 (λ (q : ℕ × ℕ). (q.0 < 2 ^ 32) × (q.1 < 2 ^ 32))) × (fits a1.value)
task_layer_fits X at fits (Task-F.Wait a0 a1) = (a0 < 2 ^ 16) × (All (λ (q : String Global). IsUtf8 (string_bytes q)) a1.items)
task_layer_fits X at fits (Task-F.Run a0 a1 a2 a3 a4) = (order_fits a0) × (span_fits a1) × (FitsSigned w16 a2) × (AllByRecursion fits a3.items)
    × (IfSome a4 (λ b. fits b.value))

abbrev pub task_fits : Task → Type 0
task_fits = rec-Task (Type 0) task_layer_fits

-- ---- one step more

task_as_After : (P Q : Msg → Task → Type 0) → ((m : Msg) (v : Task) → P m v → Q m v) → (m : Msg) (a : Option (ℕ × ℕ) × Box Task Global) → TaskRowAfter P m a
    → TaskRowAfter Q m a
task_as_After P Q f m a h = of_row_as _ _ (then_as _ _ _ _ (λ m h. h) (then_as _ _ _ _ (λ m h. f m a.1.value h) (λ ms h. h))) m h

task_run_as5 : (P Q : Msg → Task → Type 0) → ((m : Msg) (v : Task) → P m v → Q m v)
    → (v : Order × Span × ℤ × Vec Task Global × Option (Box Task Global)) (fs : List (Option Msg)) → TaskRunFrom5 P v fs → TaskRunFrom5 Q v fs
task_run_as5 P Q f v fs h = h

task_run_as4 : (P Q : Msg → Task → Type 0) → ((m : Msg) (v : Task) → P m v → Q m v)
    → (v : Order × Span × ℤ × Vec Task Global × Option (Box Task Global)) (fs : List (Option Msg)) → TaskRunFrom4 P v fs → TaskRunFrom4 Q v fs
task_run_as4 P Q f v = field_as (λ k. IsOption (Boxed P) k v.4) (λ k. IsOption (Boxed Q) k v.4) (Absent (Some None) v.4) (TaskRunFrom5 P v)
    (TaskRunFrom5 Q v) (λ m h. option_as (Boxed P) (Boxed Q) (λ n b. f n b.value) m v.4 h) (task_run_as5 P Q f v)

task_run_as3 : (P Q : Msg → Task → Type 0) → ((m : Msg) (v : Task) → P m v → Q m v)
    → (v : Order × Span × ℤ × Vec Task Global × Option (Box Task Global)) (fs : List (Option Msg)) → TaskRunFrom3 P v fs → TaskRunFrom3 Q v fs
task_run_as3 P Q f v = field_as (λ k. Row P k v.3.items) (λ k. Row Q k v.3.items) (Absent None v.3) (TaskRunFrom4 P v) (TaskRunFrom4 Q v)
    (λ m h. row_as P Q f m v.3.items h) (task_run_as4 P Q f v)

task_run_as2 : (P Q : Msg → Task → Type 0) → ((m : Msg) (v : Task) → P m v → Q m v)
    → (v : Order × Span × ℤ × Vec Task Global × Option (Box Task Global)) (fs : List (Option Msg)) → TaskRunFrom2 P v fs → TaskRunFrom2 Q v fs
task_run_as2 P Q f v = field_as (λ k. IsSigned (negsuc 32767) (pos 32767) k v.2) (λ k. IsSigned (negsuc 32767) (pos 32767) k v.2)
    (Absent (Some (LEAST)) v.2) (TaskRunFrom3 P v) (TaskRunFrom3 Q v) (λ m h. h) (task_run_as3 P Q f v)

task_run_as1 : (P Q : Msg → Task → Type 0) → ((m : Msg) (v : Task) → P m v → Q m v)
    → (v : Order × Span × ℤ × Vec Task Global × Option (Box Task Global)) (fs : List (Option Msg)) → TaskRunFrom1 P v fs → TaskRunFrom1 Q v fs
task_run_as1 P Q f v = field_as (λ k. IsSpan k v.1) (λ k. IsSpan k v.1) (Absent None v.1) (TaskRunFrom2 P v) (TaskRunFrom2 Q v) (λ m h. h)
    (task_run_as2 P Q f v)

task_run_as0 : (P Q : Msg → Task → Type 0) → ((m : Msg) (v : Task) → P m v → Q m v)
    → (v : Order × Span × ℤ × Vec Task Global × Option (Box Task Global)) (fs : List (Option Msg)) → TaskRunFrom0 P v fs → TaskRunFrom0 Q v fs
task_run_as0 P Q f v = field_as (λ k. IsOrder k v.0) (λ k. IsOrder k v.0) (Absent None v.0) (TaskRunFrom1 P v) (TaskRunFrom1 Q v) (λ m h. h)
    (task_run_as1 P Q f v)

task_as_Run : (P Q : Msg → Task → Type 0) → ((m : Msg) (v : Task) → P m v → Q m v)
    → (m : Msg) (a : Order × Span × ℤ × Vec Task Global × Option (Box Task Global)) → TaskRunRead P m a → TaskRunRead Q m a
task_as_Run P Q f m a h = fields_as task_run_names (λ fs. TaskRunFields P fs a) (λ fs. TaskRunFields Q fs a) (task_run_as0 P Q f a) m h

task_as : (P Q : Msg → Task → Type 0) → ((m : Msg) (v : Task) → P m v → Q m v) → (v : Task) (k : ℕ) (c : Option Msg) → TaskCase P v (k, c) → TaskCase Q v (k, c)
task_as P Q f v zero c h = h
task_as P Q f v (suc zero) c h = h
task_as P Q f v (suc (suc zero)) None (a, e, h) = absurd h
task_as P Q f v (suc (suc zero)) (Some m) (a, e, h) = (a, e, task_as_After P Q f m a h)
task_as P Q f v (suc (suc (suc zero))) c h = h
task_as P Q f v (suc (suc (suc (suc zero)))) None (a, e, h) = absurd h
task_as P Q f v (suc (suc (suc (suc zero)))) (Some m) (a, e, h) = (a, e, task_as_Run P Q f m a h)
task_as P Q f v (suc (suc (suc (suc (suc k))))) c h = absurd h

task_up : (n : ℕ) (m : Msg) (v : Task) → TaskIn n m v → TaskIn (suc n) m v
task_up zero m v h = absurd h
task_up (suc n) m v h =
    variant_as task_names (TaskCase (TaskIn n) v) (TaskCase (TaskIn (suc n)) v) (task_as (TaskIn n) (TaskIn (suc n)) (task_up n) v) m h

task_in_After : (m : Msg) (a : Option (ℕ × ℕ) × Box Task Global) → TaskRowAfter IsTask m a → (n : ℕ) × TaskRowAfter (TaskIn n) m a
task_in_After m a h = of_row_in _ _ (then_in _ _ _ _ (λ i. (λ m h. h)) (λ i. then_as _ _ _ _ (λ m h. (task_up i) m a.1.value h) (λ ms h. h))
    (λ m h. (zero, h)) (then_in _ _ _ _ (λ i. (λ m h. (task_up i) m a.1.value h)) (λ i. (λ ms h. h)) (λ m h. h) (λ ms h. (zero, h)))) m h

task_run_in5 : (v : Order × Span × ℤ × Vec Task Global × Option (Box Task Global)) (fs : List (Option Msg)) → TaskRunFrom5 IsTask v fs
    → (n : ℕ) × TaskRunFrom5 (TaskIn n) v fs
task_run_in5 v fs h = (zero, h)

task_run_in4 : (v : Order × Span × ℤ × Vec Task Global × Option (Box Task Global)) (fs : List (Option Msg)) → TaskRunFrom4 IsTask v fs
    → (n : ℕ) × TaskRunFrom4 (TaskIn n) v fs
task_run_in4 v = field_in (Absent (Some None) v.4) (λ k. IsOption (Boxed IsTask) k v.4) (λ i. (λ k. IsOption (Boxed (TaskIn i)) k v.4))
    (TaskRunFrom5 IsTask v) (λ i. TaskRunFrom5 (TaskIn i) v)
    (λ i. (λ m h. option_as (Boxed (TaskIn i)) (Boxed (TaskIn (suc i))) (λ n b. (task_up i) n b.value) m v.4 h))
    (λ i. task_run_as5 (TaskIn i) (TaskIn (suc i)) (task_up i) v) (λ m h. option_in (λ n. Boxed (TaskIn n)) m v.4 h) (task_run_in5 v)

task_run_in3 : (v : Order × Span × ℤ × Vec Task Global × Option (Box Task Global)) (fs : List (Option Msg)) → TaskRunFrom3 IsTask v fs
    → (n : ℕ) × TaskRunFrom3 (TaskIn n) v fs
task_run_in3 v = field_in (Absent None v.3) (λ k. Row IsTask k v.3.items) (λ i. (λ k. Row (TaskIn i) k v.3.items)) (TaskRunFrom4 IsTask v)
    (λ i. TaskRunFrom4 (TaskIn i) v) (λ i. (λ m h. row_as (TaskIn i) (TaskIn (suc i)) (task_up i) m v.3.items h))
    (λ i. task_run_as4 (TaskIn i) (TaskIn (suc i)) (task_up i) v) (λ m h. row_in TaskIn task_up m v.3.items h) (task_run_in4 v)

task_run_in2 : (v : Order × Span × ℤ × Vec Task Global × Option (Box Task Global)) (fs : List (Option Msg)) → TaskRunFrom2 IsTask v fs
    → (n : ℕ) × TaskRunFrom2 (TaskIn n) v fs
task_run_in2 v = field_in (Absent (Some (LEAST)) v.2) (λ k. IsSigned (negsuc 32767) (pos 32767) k v.2)
    (λ i. (λ k. IsSigned (negsuc 32767) (pos 32767) k v.2)) (TaskRunFrom3 IsTask v) (λ i. TaskRunFrom3 (TaskIn i) v) (λ i. (λ m h. h))
    (λ i. task_run_as3 (TaskIn i) (TaskIn (suc i)) (task_up i) v) (λ m h. (zero, h)) (task_run_in3 v)

task_run_in1 : (v : Order × Span × ℤ × Vec Task Global × Option (Box Task Global)) (fs : List (Option Msg)) → TaskRunFrom1 IsTask v fs
    → (n : ℕ) × TaskRunFrom1 (TaskIn n) v fs
task_run_in1 v = field_in (Absent None v.1) (λ k. IsSpan k v.1) (λ i. (λ k. IsSpan k v.1)) (TaskRunFrom2 IsTask v) (λ i. TaskRunFrom2 (TaskIn i) v)
    (λ i. (λ m h. h)) (λ i. task_run_as2 (TaskIn i) (TaskIn (suc i)) (task_up i) v) (λ m h. (zero, h)) (task_run_in2 v)

task_run_in0 : (v : Order × Span × ℤ × Vec Task Global × Option (Box Task Global)) (fs : List (Option Msg)) → TaskRunFrom0 IsTask v fs
    → (n : ℕ) × TaskRunFrom0 (TaskIn n) v fs
task_run_in0 v = field_in (Absent None v.0) (λ k. IsOrder k v.0) (λ i. (λ k. IsOrder k v.0)) (TaskRunFrom1 IsTask v) (λ i. TaskRunFrom1 (TaskIn i) v)
    (λ i. (λ m h. h)) (λ i. task_run_as1 (TaskIn i) (TaskIn (suc i)) (task_up i) v) (λ m h. (zero, h)) (task_run_in1 v)

task_in_Run : (m : Msg) (a : Order × Span × ℤ × Vec Task Global × Option (Box Task Global)) → TaskRunRead IsTask m a → (n : ℕ) × TaskRunRead (TaskIn n) m a
task_in_Run m a h = fields_in task_run_names (λ fs. TaskRunFields IsTask fs a) (λ n fs. TaskRunFields (TaskIn n) fs a) (task_run_in0 a) m h

task_in : (v : Task) (k : ℕ) (c : Option Msg) → TaskCase IsTask v (k, c) → (n : ℕ) × TaskCase (TaskIn n) v (k, c)
task_in v zero c h = (zero, h)
task_in v (suc zero) c h = (zero, h)
task_in v (suc (suc zero)) None (a, e, h) = absurd h
task_in v (suc (suc zero)) (Some m) (a, e, h) = let i = task_in_After m a h in (i.0, (a, e, i.1))
task_in v (suc (suc (suc zero))) c h = (zero, h)
task_in v (suc (suc (suc (suc zero)))) None (a, e, h) = absurd h
task_in v (suc (suc (suc (suc zero)))) (Some m) (a, e, h) = let i = task_in_Run m a h in (i.0, (a, e, i.1))
task_in v (suc (suc (suc (suc (suc k))))) c h = absurd h

pub task_made : (v : Task) (m : Msg) → OfVariant task_names (TaskCase IsTask v) m → IsTask m v
task_made v m h = let i = variant_in task_names (TaskCase IsTask v) (λ n. TaskCase (TaskIn n) v) (task_in v) m h in (suc i.0, i.1)

pub task_out : (m : Msg) (v : Task) → IsTask m v → OfVariant task_names (TaskCase IsTask v) m
task_out m v (zero, h) = absurd h
task_out m v (suc n, h) = variant_as task_names (TaskCase (TaskIn n) v) (TaskCase IsTask v) (task_as (TaskIn n) IsTask (λ k w p. (n, p)) v) m h

pub task_variant : (m : Msg) → Readable IsTask m → Readable (λ k v. OfVariant task_names (TaskCase IsTask v) k) m
task_variant m (v, h) = (v, task_out m v h)

-- ---- induction

-- P holds of the parts
abbrev pub TaskParts : (Task → Type 0) → Task-F Task → Type 0
TaskParts P Task-F.Idle = ⊤
TaskParts P (Task-F.Move a0 a1) = ⊤
TaskParts P (Task-F.After a0 a1) = P a1.value
TaskParts P (Task-F.Wait a0 a1) = ⊤
TaskParts P (Task-F.Run a0 a1 a2 a3 a4) = (All P a3.items) × (IfSome a4 (λ b. P b.value))

task_parts_hold : {B : Type 0} (P : Task → Type 0) (first : B → Task) → ((b : B) → P (first b)) → (y : Task-F B) → TaskParts P (map-Task B Task first y)
task_parts_hold P first h Task-F.Idle = tt
task_parts_hold P first h (Task-F.Move a0 a1) = tt
task_parts_hold P first h (Task-F.After a0 a1) = h a1.value
task_parts_hold P first h (Task-F.Wait a0 a1) = tt
task_parts_hold P first h (Task-F.Run a0 a1 a2 a3 None) = (each_holds P first h a3.items, tt)
task_parts_hold P first h (Task-F.Run a0 a1 a2 a3 (Some a4)) = (each_holds P first h a3.items, h a4.value)

-- what holds of a value where it holds of its parts holds of each value
pub task_induction : (P : Task → Type 0) → ((v : Task) → TaskParts P (out-Task v) → P v) → (v : Task) → P v
task_induction P step =
    ind-Task P (λ x y same. step (roll-Task x) (subst (TaskParts P) (same ∙ sym (out-roll-Task x)) (task_parts_hold P (λ e. e.0) (λ e. e.1) y)))

task_through : (X : Type 0) (at : X → Task) (k : Task → Type 0) (x : Task-F X)
    → task_layer_fits X at (λ p. k (at p)) x ≡ task_layer_fits Task (λ y. y) k (map-Task X Task at x)
task_through X at k Task-F.Idle = refl
task_through X at k (Task-F.Move a0 a1) = refl
task_through X at k (Task-F.After a0 a1) = λ i. (IfSome a0 (λ (q : ℕ × ℕ). (q.0 < 2 ^ 32) × (q.1 < 2 ^ 32))) × (k (at a1.value))
task_through X at k (Task-F.Wait a0 a1) = refl
task_through X at k (Task-F.Run a0 a1 a2 a3 None) = λ i. (order_fits a0) × (span_fits a1) × (FitsSigned w16 a2) × (through at k a3.items i) × (⊤)
task_through X at k (Task-F.Run a0 a1 a2 a3 (Some a4)) = λ i. (order_fits a0) × (span_fits a1) × (FitsSigned w16 a2) × (through at k a3.items i)
    × (k (at a4.value))

abbrev pub TaskFits : Task-F Task → Type 0
TaskFits x = task_layer_fits Task (λ y. y) task_fits x

task_fits_is : (v : Task) → task_fits v ≡ TaskFits (out-Task v)
task_fits_is v = ap task_fits (sym (roll-out-Task v)) ∙ rec-roll-Task (Type 0) task_layer_fits task_through (out-Task v)

pub task_fits_out : (v : Task) → task_fits v → TaskFits (out-Task v)
task_fits_out v h = subst (λ T. T) (task_fits_is v) h

pub task_fits_in : (v : Task) (x : Task-F Task) → out-Task v ≡ x → TaskFits x → task_fits v
task_fits_in v x e h = subst (λ T. T) (sym (task_fits_is v)) (subst TaskFits (sym e) h)

pub task_is : (v : Task) → task_data v ≡ task_level (map-Task Task (Option Data) task_data (out-Task v))
task_is v = fold_out-Task (Option Data) task_level v

pub task_is_at : (v : Task) (x : Task-F Task) → out-Task v ≡ x → task_data v ≡ task_level (map-Task Task (Option Data) task_data x)
task_is_at v x e = task_is v ∙ ap (λ z. task_level (map-Task Task (Option Data) task_data z)) e

pub task_at_Run : (a0 : Order) (a1 : Span) (a2 : ℤ) (a3 : Vec Task Global) (a4 : Option (Box Task Global))
    → task_level (map-Task Task (Option Data) task_data (Task-F.Run a0 a1 a2 a3 a4)) ≡ struct_variant_of (codes "Run")
    ((codes "order", order_data a0) ∷ ((codes "span", span_data a1)
    ∷ ((codes "least", Some (whole a2)) ∷ ((codes "steps", slice_of (map task_data a3.items))
    ∷ ((codes "otherwise", option_of (λ (b : Box Task Global). task_data b.value) a4) ∷ [])))))
task_at_Run a0 a1 a2 a3 None = refl
task_at_Run a0 a1 a2 a3 (Some a4) = refl
