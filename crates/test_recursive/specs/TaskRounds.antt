-- Each Task is read as it was written, and as nothing else. Written by tools/derive.py.
use Rattle.std.proofs.Common.{◌≡◌, ◌∙◌, refl, sym, ap, subst, ℕ, [], ◌∷◌, map, Option, None, Some, String, Box}
use Rattle.std.specs.Prelude.{◌≢◌, ◌<◌, ◌^◌, codes, Vec, ℤ, pos, negsuc, IsUtf8, IsSome, string_bytes}
use Rattle.std.specs.declared.alloc.Global.{Global}
use Rattle.rmp_wire.specs.Msg.{Msg, nil}
use Rattle.rmp_decode.specs.Fields.{OfFields, Field, Absent, NoField}
use Rattle.rmp_decode.specs.Options.{IsOption}
use Rattle.rmp_decode.specs.Read.{IsUnsigned, IsSigned, IsRaw}
use Rattle.rmp_decode.specs.Rows.{ReadsEach, AndThen, NoMore}
use Rattle.rmp_decode.specs.Seq.{OfRow}
use Rattle.rmp_decode.specs.Variants.{OfVariant, Content}
use Rattle.rmp_encode.specs.Data.{Data, whole, text, unit_variant}
use Rattle.rmp_encode.specs.Trees.{tree_of, tuple_of, slice_of, option_of, tuple_variant_of, struct_variant_of}
use Rattle.rmp_encode.specs.declared.settings.Settings.{Settings}
use Rattle.rmp_round_trip.specs.LeafRounds.{string_row, signed_row_16, signed_row_32, unsigned_row_16, unsigned_row_32}
use Rattle.rmp_round_trip.specs.OnlyFields.{AtPlace, AnyContent, content_row, content_fields, variant_both, field_only, last_field}
use Rattle.rmp_round_trip.specs.OnlyLeaves.{unsigned_only, signed_only, string_only}
use Rattle.rmp_round_trip.specs.OnlyRows.{row_both, inside_only, item_only, last_only, list_only, option_only, lowers_then}
use Rattle.rmp_round_trip.specs.RoundTrip.{Alike, AlikeOption, LowersTo, Only}
use Rattle.rmp_round_trip.specs.Rounds.{slice_some, each_some, each_row, slice_row, option_some, option_row, tuple_row, tuple_other, rows_none, rows_cons}
use Rattle.rmp_round_trip.specs.StructRounds.{tuple_all, tuple_variant_all, struct_variant_all, fields_none, fields_cons}
use Rattle.rmp_round_trip.specs.VariantRounds.{bare_row, tuple_variant_row, struct_variant_row, bare_other, tuple_variant_other, struct_variant_other}
use Rattle.rmp_recursive.specs.Parts.{Row, Boxed, each_from, option_from}
use Rattle.rmp_recursive.specs.Leaves.{maps_alike_by, option_alike_by}
use Rattle.rmp_recursive.specs.Rounds.{each_data, option_data, lowers_as, map_alike, option_alike}
use Rattle.test_recursive.specs.declared.tasks.Task.{Task, out-Task}
use Rattle.test_recursive.specs.declared.tasks.TheConstants.{LEAST}
use Rattle.test_recursive.specs.declared.tasks.Task.TheFolds.{map-Task}
use Rattle.test_recursive.specs.declared.tasks.Task.TheOpen.{Task-F}
use Rattle.test_recursive.specs.TaskLevels.{
  TaskCase,
  IsTask,
  TaskParts,
  TaskFits,
  TaskWaitFields,
  task_wait_names,
  TaskRunFields,
  task_run_names,
  task_at_Run,
  task_names,
  task_level,
  task_data,
  task_fits,
  task_made,
  task_out,
  task_induction,
  task_fits_out,
  task_is,
  task_is_at,
}
use Rattle.test_recursive.specs.OrderLeaf.{IsOrder, order_data, order_some, order_row, order_only}
use Rattle.test_recursive.specs.SpanLeaf.{IsSpan, SameSpan, span_data, span_some, span_alike, span_row, span_only}
use Rattle.test_recursive.specs.declared.tasks.Order.{Order}
use Rattle.test_recursive.specs.declared.tasks.Span.{Span}

-- ---- no value is refused

task_level_some : (x : Task-F Task) → TaskParts (λ t. IsSome (task_data t)) x → IsSome (task_level (map-Task Task (Option Data) task_data x))
task_level_some Task-F.Idle h = refl
task_level_some (Task-F.Move a0 a1) h = tuple_variant_all (codes "Move") (Some (whole a0) ∷ (Some (whole a1) ∷ [])) (refl, (refl, tt))
task_level_some (Task-F.After a0 a1) h = tuple_variant_all (codes "After")
    (option_of (λ (q : ℕ × ℕ). tuple_of (Some (whole (pos q.0)) ∷ (Some (whole (pos q.1)) ∷ []))) a0 ∷ (task_data a1.value ∷ [])) (
      (option_some (λ (q : ℕ × ℕ). tuple_of (Some (whole (pos q.0)) ∷ (Some (whole (pos q.1)) ∷ [])))
          (λ (q : ℕ × ℕ). (tuple_all (Some (whole (pos q.0)) ∷ (Some (whole (pos q.1)) ∷ [])) (refl, (refl, tt)))) a0),
      (h, tt),
    )
task_level_some (Task-F.Wait a0 a1) h = struct_variant_all (codes "Wait")
    ((codes "atLeast", Some (whole (pos a0))) ∷ ((codes "thenCall", slice_of (map (λ (q : String Global). Some (text (string_bytes q))) a1.items)) ∷ [])) (
      refl,
      (
        (slice_some (map (λ (q : String Global). Some (text (string_bytes q))) a1.items)
            (each_some (λ (q : String Global). Some (text (string_bytes q))) (λ (q : String Global). refl) a1.items)),
        tt,
      ),
    )
task_level_some (Task-F.Run a0 a1 a2 a3 None) h = struct_variant_all (codes "Run")
    ((codes "order", order_data a0) ∷ ((codes "span", span_data a1)
    ∷ ((codes "least", Some (whole a2)) ∷ ((codes "steps", slice_of (map task_data a3.items))
    ∷ ((codes "otherwise", option_of (λ (b : Box Task Global). task_data b.value) None) ∷ []))))) (
      (order_some a0),
      (
        (span_some a1),
        (
          refl,
          (
            (slice_some (map task_data a3.items) (each_data task_data a3.items h.0)),
            ((option_data (λ (b : Box Task Global). task_data b.value) None h.1), tt),
          ),
        ),
      ),
    )
task_level_some (Task-F.Run a0 a1 a2 a3 (Some a4)) h = struct_variant_all (codes "Run")
    ((codes "order", order_data a0) ∷ ((codes "span", span_data a1)
    ∷ ((codes "least", Some (whole a2)) ∷ ((codes "steps", slice_of (map task_data a3.items))
    ∷ ((codes "otherwise", option_of (λ (b : Box Task Global). task_data b.value) (Some a4)) ∷ []))))) (
      (order_some a0),
      (
        (span_some a1),
        (
          refl,
          (
            (slice_some (map task_data a3.items) (each_data task_data a3.items h.0)),
            ((option_data (λ (b : Box Task Global). task_data b.value) (Some a4) h.1), tt),
          ),
        ),
      ),
    )

pub task_some : (v : Task) → IsSome (task_data v)
task_some = task_induction (λ v. IsSome (task_data v)) (λ v h. subst IsSome (sym (task_is v)) (task_level_some (out-Task v) h))

module _ (s : Settings) where
  -- ---- it is never nil

  task_level_other : (x : Task-F (Option Data)) → tree_of s (task_level x) ≢ Some nil
  task_level_other Task-F.Idle e = bare_other s (codes "Idle") e
  task_level_other (Task-F.Move a0 a1) e = tuple_variant_other s (codes "Move") (Some (whole a0) ∷ (Some (whole a1) ∷ [])) e
  task_level_other (Task-F.After a0 a1) e = tuple_variant_other s (codes "After")
      (option_of (λ (q : ℕ × ℕ). tuple_of (Some (whole (pos q.0)) ∷ (Some (whole (pos q.1)) ∷ []))) a0 ∷ (a1.value ∷ [])) e
  task_level_other (Task-F.Wait a0 a1) e = struct_variant_other s (codes "Wait")
      ((codes "atLeast", Some (whole (pos a0))) ∷ ((codes "thenCall", slice_of (map (λ (q : String Global). Some (text (string_bytes q))) a1.items)) ∷ []))
      e
  task_level_other (Task-F.Run a0 a1 a2 a3 a4) e = struct_variant_other s (codes "Run")
      ((codes "order", order_data a0) ∷ ((codes "span", span_data a1)
      ∷ ((codes "least", Some (whole a2)) ∷ ((codes "steps", slice_of a3.items) ∷ ((codes "otherwise", option_of (λ b. b.value) a4) ∷ []))))) e

  pub task_other : (v : Task) → tree_of s (task_data v) ≢ Some nil
  task_other v e = task_level_other (map-Task Task (Option Data) task_data (out-Task v)) (ap (tree_of s) (sym (task_is v)) ∙ e)

  -- ---- what a value lowers to is read as that value

  abbrev TaskBack : Task → Type 0
  TaskBack v = LowersTo s (task_data v) (λ m. IsTask m v)

  abbrev TaskRound : Task → Type 0
  TaskRound v = task_fits v → TaskBack v

  task_level_round : (v : Task) (x : Task-F Task) → out-Task v ≡ x → TaskParts TaskRound x → TaskFits x
      → LowersTo s (task_level (map-Task Task (Option Data) task_data x)) (λ m. OfVariant task_names (TaskCase IsTask v) m)
  task_level_round v Task-F.Idle e h fit = bare_row s task_names (codes "Idle") 0 refl (TaskCase IsTask v) (e, tt)
  task_level_round v (Task-F.Move a0 a1) e h fit = tuple_variant_row s task_names (codes "Move") 1 refl (TaskCase IsTask v) _ _ (λ m p. ((a0, a1), e, p))
      (rows_cons s _ _ (λ m. IsSigned (negsuc 2147483647) (pos 2147483647) m a0) _ (signed_row_32 s a0 fit.0)
      (rows_cons s _ _ (λ m. IsSigned (negsuc 2147483647) (pos 2147483647) m a1) _ (signed_row_32 s a1 fit.1) (rows_none s)))
  task_level_round v (Task-F.After a0 a1) e h fit = tuple_variant_row s task_names (codes "After") 2 refl (TaskCase IsTask v) _ _ (λ m p. ((a0, a1), e, p))
      (rows_cons s _ _ (λ m. IsOption (λ j q. OfRow (AndThen (λ k. IsUnsigned 4294967295 k q.0) (AndThen (λ k. IsUnsigned 4294967295 k q.1) NoMore)) j) m
      a0) _ (option_row s (λ (q : ℕ × ℕ). tuple_of (Some (whole (pos q.0)) ∷ (Some (whole (pos q.1)) ∷ [])))
      (λ (q : ℕ × ℕ). (q.0 < 2 ^ 32) × (q.1 < 2 ^ 32)) (λ (j : Msg) (q : ℕ × ℕ). OfRow
      (AndThen (λ k. IsUnsigned 4294967295 k q.0) (AndThen (λ k. IsUnsigned 4294967295 k q.1) NoMore)) j) (λ (q : ℕ × ℕ). tuple_other s _)
      (λ q u. tuple_row s _ _ (rows_cons s _ _ (λ k. IsUnsigned 4294967295 k q.0) _ (unsigned_row_32 s q.0 u.0)
      (rows_cons s _ _ (λ k. IsUnsigned 4294967295 k q.1) _ (unsigned_row_32 s q.1 u.1) (rows_none s)))) a0 fit.0)
      (rows_cons s _ _ (λ m. IsTask m a1.value) _ (h fit.1) (rows_none s)))
  task_level_round v (Task-F.Wait a0 a1) e h fit = struct_variant_row s task_names (codes "Wait") 3 refl (TaskCase IsTask v) task_wait_names _
      (λ fs. TaskWaitFields fs (a0, a1)) refl (λ m p. ((a0, a1), e, p))
      (fields_cons s (codes "atLeast") _ _ _ (λ k. IsUnsigned 65535 k a0) (Absent None a0) _ (unsigned_row_16 s a0 fit.0)
      (fields_cons s (codes "thenCall") _ _ _ (λ k. Row (λ j q. IsRaw j (string_bytes q)) k a1.items) (Absent None a1) _
      (slice_row s (map (λ (q : String Global). Some (text (string_bytes q))) a1.items)
      (λ ms. ReadsEach (λ (j : Msg) (q : String Global). IsRaw j (string_bytes q)) ms a1.items)
      (each_row s (λ (q : String Global). Some (text (string_bytes q))) (λ (q : String Global). IsUtf8 (string_bytes q))
      (λ (j : Msg) (q : String Global). IsRaw j (string_bytes q)) (λ q u. string_row s (string_bytes q)) a1.items fit.1)) (fields_none s)))
  task_level_round v (Task-F.Run a0 a1 a2 a3 None) e h fit = struct_variant_row s task_names (codes "Run") 4 refl (TaskCase IsTask v) task_run_names _
      (λ fs. TaskRunFields IsTask fs (a0, a1, a2, a3, None)) refl (λ m p. ((a0, a1, a2, a3, None), e, p))
      (fields_cons s (codes "order") _ _ _ (λ k. IsOrder k a0) (Absent None a0) _ (order_row s a0 fit.0)
      (fields_cons s (codes "span") _ _ _ (λ k. IsSpan k a1) (Absent None a1) _ (span_row s a1 fit.1)
      (fields_cons s (codes "least") _ _ _ (λ k. IsSigned (negsuc 32767) (pos 32767) k a2) (Absent (Some (LEAST)) a2) _ (signed_row_16 s a2 fit.2)
      (fields_cons s (codes "steps") _ _ _ (λ k. Row IsTask k a3.items) (Absent None a3) _
      (slice_row s (map task_data a3.items) (λ ms. ReadsEach IsTask ms a3.items)
      (each_row s task_data TaskBack IsTask (λ w p. p) a3.items (each_from task_fits TaskBack a3.items h.0 fit.3)))
      (fields_cons s (codes "otherwise") _ _ _ (λ k. IsOption (Boxed IsTask) k None) (Absent (Some None) None) _
      (option_row s (λ (b : Box Task Global). task_data b.value) (λ b. TaskBack b.value) (Boxed IsTask)
      (λ b. task_other b.value) (λ b p. p) None (option_from (λ (b : Box Task Global). task_fits b.value) (λ b. TaskBack b.value) None h.1 fit.4))
      (fields_none s))))))
  task_level_round v (Task-F.Run a0 a1 a2 a3 (Some a4)) e h fit = struct_variant_row s task_names (codes "Run") 4 refl (TaskCase IsTask v) task_run_names _
      (λ fs. TaskRunFields IsTask fs (a0, a1, a2, a3, (Some a4))) refl (λ m p. ((a0, a1, a2, a3, (Some a4)), e, p))
      (fields_cons s (codes "order") _ _ _ (λ k. IsOrder k a0) (Absent None a0) _ (order_row s a0 fit.0)
      (fields_cons s (codes "span") _ _ _ (λ k. IsSpan k a1) (Absent None a1) _ (span_row s a1 fit.1)
      (fields_cons s (codes "least") _ _ _ (λ k. IsSigned (negsuc 32767) (pos 32767) k a2) (Absent (Some (LEAST)) a2) _ (signed_row_16 s a2 fit.2)
      (fields_cons s (codes "steps") _ _ _ (λ k. Row IsTask k a3.items) (Absent None a3) _
      (slice_row s (map task_data a3.items) (λ ms. ReadsEach IsTask ms a3.items)
      (each_row s task_data TaskBack IsTask (λ w p. p) a3.items (each_from task_fits TaskBack a3.items h.0 fit.3)))
      (fields_cons s (codes "otherwise") _ _ _ (λ k. IsOption (Boxed IsTask) k (Some a4)) (Absent (Some None) (Some a4)) _
      (option_row s (λ (b : Box Task Global). task_data b.value) (λ b. TaskBack b.value) (Boxed IsTask)
      (λ b. task_other b.value) (λ b p. p) (Some a4) (option_from (λ (b : Box Task Global). task_fits b.value) (λ b. TaskBack b.value) (Some a4) h.1 fit.4))
      (fields_none s))))))

  pub task_round : (v : Task) → TaskRound v
  task_round = task_induction TaskRound
      (λ v h fits. subst (λ d. LowersTo s d (λ m. IsTask m v)) (sym (task_is v))
      (lowers_as s (task_level (map-Task Task (Option Data) task_data (out-Task v))) (λ m. OfVariant task_names (TaskCase IsTask v) m) (λ m. IsTask m v)
      (task_made v) (task_level_round v (out-Task v) refl h (task_fits_out v fits))))

-- ---- values of the same content are written alike

abbrev pub SameTask : Task → Task → Type 0
SameTask v w = task_data v ≡ task_data w

task_by : (w : Task) (y : Task-F Task) → out-Task w ≡ y → task_level (map-Task Task (Option Data) task_data y) ≡ task_data w
task_by w y e = sym (task_is_at w y e)

module _ (s : Settings) where
  abbrev TaskOnly : Task → Type 0
  TaskOnly v = LowersTo s (task_data v) (λ m. Only IsTask SameTask m v)

  abbrev TaskLevelOnly : Task-F Task → Msg → Type 0
  TaskLevelOnly x m = (w : Task) → OfVariant task_names (TaskCase IsTask w) m → task_level (map-Task Task (Option Data) task_data x) ≡ task_data w

  task_level_only : (x : Task-F Task) → TaskParts (λ v. task_fits v → TaskOnly v) x → TaskFits x
      → LowersTo s (task_level (map-Task Task (Option Data) task_data x)) (TaskLevelOnly x)
  task_level_only Task-F.Idle h fit =
      lowers_then s (Some (unit_variant (codes "Idle"))) (OfVariant task_names (AtPlace 0 AnyContent)) (TaskLevelOnly Task-F.Idle)
      (bare_row s task_names (codes "Idle") 0 refl (AtPlace 0 AnyContent) (refl, tt))
      (λ m q w r. variant_both task_names 0 AnyContent (TaskCase IsTask w) _ m q r (λ c i j. task_by w Task-F.Idle j.0))
  task_level_only (Task-F.Move a0 a1) h fit =
      lowers_then s (tuple_variant_of (codes "Move") (Some (whole a0) ∷ (Some (whole a1) ∷ []))) _ (TaskLevelOnly (Task-F.Move a0 a1))
      (tuple_variant_row s task_names (codes "Move") 1 refl
      (AtPlace 1 (Content (OfRow (AndThen (λ k. Only (λ (k : Msg) (x : ℤ). IsSigned (negsuc 2147483647) (pos 2147483647) k x) (λ (x y : ℤ). x ≡ y) k a0)
      (AndThen (λ k. Only (λ (k : Msg) (x : ℤ). IsSigned (negsuc 2147483647) (pos 2147483647) k x) (λ (x y : ℤ). x ≡ y) k a1) NoMore))))) _ _
      (λ m p. (refl, p))
      (rows_cons s _ _ (λ k. Only (λ (k : Msg) (x : ℤ). IsSigned (negsuc 2147483647) (pos 2147483647) k x) (λ (x y : ℤ). x ≡ y) k a0) _
      (signed_only s (negsuc 2147483647) (pos 2147483647) a0)
      (rows_cons s _ _ (λ k. Only (λ (k : Msg) (x : ℤ). IsSigned (negsuc 2147483647) (pos 2147483647) k x) (λ (x y : ℤ). x ≡ y) k a1) _
      (signed_only s (negsuc 2147483647) (pos 2147483647) a1) (rows_none s))))
      (λ m q w r. variant_both task_names 1 _ (TaskCase IsTask w) _ m q r
      (λ c i j. let x = content_row _ _ _ c i j.2 (λ ks q r.
      (item_only (λ (k : Msg) (x : ℤ). IsSigned (negsuc 2147483647) (pos 2147483647) k x) (λ (x y : ℤ). x ≡ y) a0 j.0.0 _ _ _
      (last_only (λ (k : Msg) (x : ℤ). IsSigned (negsuc 2147483647) (pos 2147483647) k x) (λ (x y : ℤ). x ≡ y) a1 j.0.1)) ks q r) in
      let same : tuple_variant_of (codes "Move") (Some (whole a0) ∷ (Some (whole a1) ∷ [])) ≡ tuple_variant_of (codes "Move")
      (Some (whole j.0.0) ∷ (Some (whole j.0.1) ∷ [])) = λ t. tuple_variant_of (codes "Move")
      ((ap (λ n. Some (whole n)) x.0) t ∷ ((ap (λ n. Some (whole n)) x.1) t ∷ [])) in same ∙ task_by w (Task-F.Move j.0.0 j.0.1) j.1))
  task_level_only (Task-F.After a0 a1) h fit =
      lowers_then s (tuple_variant_of (codes "After") (option_of (λ (q : ℕ × ℕ). tuple_of (Some (whole (pos q.0)) ∷ (Some (whole (pos q.1)) ∷ []))) a0
      ∷ (task_data a1.value ∷ []))) _ (TaskLevelOnly (Task-F.After a0 a1))
      (tuple_variant_row s task_names (codes "After") 2 refl
      (AtPlace 2 (Content (OfRow (AndThen (λ k. Only (λ (k : Msg) (x : Option (ℕ × ℕ)). IsOption
      (λ j q. OfRow (AndThen (λ k. IsUnsigned 4294967295 k q.0) (AndThen (λ k. IsUnsigned 4294967295 k q.1) NoMore)) j) k x)
      (λ (x y : Option (ℕ × ℕ)). AlikeOption (λ (q r : ℕ × ℕ). (q.0 ≡ r.0) × (q.1 ≡ r.1)) x y) k a0)
      (AndThen (λ k. Only (λ (k : Msg) (x : Box Task Global). IsTask k x.value) (λ (x y : Box Task Global). SameTask x.value y.value) k a1) NoMore)))))
      _ _ (λ m p. (refl, p))
      (rows_cons s _ _ (λ k. Only (λ (k : Msg) (x : Option (ℕ × ℕ)). IsOption
      (λ j q. OfRow (AndThen (λ k. IsUnsigned 4294967295 k q.0) (AndThen (λ k. IsUnsigned 4294967295 k q.1) NoMore)) j) k x)
      (λ (x y : Option (ℕ × ℕ)). AlikeOption (λ (q r : ℕ × ℕ). (q.0 ≡ r.0) × (q.1 ≡ r.1)) x y) k a0) _
      (option_only s (option_of (λ (q : ℕ × ℕ). tuple_of (Some (whole (pos q.0)) ∷ (Some (whole (pos q.1)) ∷ []))) a0)
      (λ (j : Msg) (q : ℕ × ℕ). OfRow (AndThen (λ k. IsUnsigned 4294967295 k q.0) (AndThen (λ k. IsUnsigned 4294967295 k q.1) NoMore)) j)
      (λ (q r : ℕ × ℕ). (q.0 ≡ r.0) × (q.1 ≡ r.1)) a0
      (option_row s (λ (q : ℕ × ℕ). tuple_of (Some (whole (pos q.0)) ∷ (Some (whole (pos q.1)) ∷ []))) (λ (q : ℕ × ℕ). (q.0 < 2 ^ 32) × (q.1 < 2 ^ 32))
      (Only (λ (j : Msg) (q : ℕ × ℕ). OfRow (AndThen (λ k. IsUnsigned 4294967295 k q.0) (AndThen (λ k. IsUnsigned 4294967295 k q.1) NoMore)) j)
      (λ (q r : ℕ × ℕ). (q.0 ≡ r.0) × (q.1 ≡ r.1))) (λ (q : ℕ × ℕ). tuple_other s _)
      (λ q u. lowers_then s _ _ (λ m. (w : ℕ × ℕ) → OfRow
      (AndThen (λ k. IsUnsigned 4294967295 k w.0) (AndThen (λ k. IsUnsigned 4294967295 k w.1) NoMore)) m → (q.0 ≡ w.0) × (q.1 ≡ w.1))
      (tuple_row s _ (AndThen (λ k. Only (λ (j : Msg) (q : ℕ). IsUnsigned 4294967295 j q) (λ (q r : ℕ). q ≡ r) k q.0)
      (AndThen (λ k. Only (λ (j : Msg) (q : ℕ). IsUnsigned 4294967295 j q) (λ (q r : ℕ). q ≡ r) k q.1) NoMore))
      (rows_cons s _ _ (λ k. Only (λ (j : Msg) (q : ℕ). IsUnsigned 4294967295 j q) (λ (q r : ℕ). q ≡ r) k q.0) _ (unsigned_only s 4294967295 q.0)
      (rows_cons s _ _ (λ k. Only (λ (j : Msg) (q : ℕ). IsUnsigned 4294967295 j q) (λ (q r : ℕ). q ≡ r) k q.1) _ (unsigned_only s 4294967295 q.1)
      (rows_none s))))
      (λ m o w r. row_both _ _ _ m o r (λ ks i j. let x =
      (item_only (λ (j : Msg) (q : ℕ). IsUnsigned 4294967295 j q) (λ (q r : ℕ). q ≡ r) q.0 w.0 _ _ _
      (last_only (λ (j : Msg) (q : ℕ). IsUnsigned 4294967295 j q) (λ (q r : ℕ). q ≡ r) q.1 w.1)) ks i j in (x.0, x.1)))) a0 fit.0))
      (rows_cons s _ _ (λ k. Only (λ (k : Msg) (x : Box Task Global). IsTask k x.value) (λ (x y : Box Task Global). SameTask x.value y.value) k a1) _
      (inside_only s (task_data a1.value) (λ b. b.value) IsTask SameTask a1.value (h fit.1)) (rows_none s))))
      (λ m q w r. variant_both task_names 2 _ (TaskCase IsTask w) _ m q r
      (λ c i j. let x = content_row _ _ _ c i j.2 (λ ks q r.
      (item_only (λ (k : Msg) (x : Option (ℕ × ℕ)). IsOption
      (λ j q. OfRow (AndThen (λ k. IsUnsigned 4294967295 k q.0) (AndThen (λ k. IsUnsigned 4294967295 k q.1) NoMore)) j) k x)
      (λ (x y : Option (ℕ × ℕ)). AlikeOption (λ (q r : ℕ × ℕ). (q.0 ≡ r.0) × (q.1 ≡ r.1)) x y) a0 j.0.0 _ _ _
      (last_only (λ (k : Msg) (x : Box Task Global). IsTask k x.value) (λ (x y : Box Task Global). SameTask x.value y.value) a1 j.0.1)) ks q r) in
      let same : tuple_variant_of (codes "After") (option_of (λ (q : ℕ × ℕ). tuple_of (Some (whole (pos q.0)) ∷ (Some (whole (pos q.1)) ∷ []))) a0
      ∷ (task_data a1.value ∷ [])) ≡ tuple_variant_of (codes "After")
      (option_of (λ (q : ℕ × ℕ). tuple_of (Some (whole (pos q.0)) ∷ (Some (whole (pos q.1)) ∷ []))) j.0.0 ∷ (task_data j.0.1.value ∷ [])) = λ t.
      tuple_variant_of (codes "After") ((option_alike_by (λ (q : ℕ × ℕ). tuple_of (Some (whole (pos q.0)) ∷ (Some (whole (pos q.1)) ∷ [])))
      (λ (q r : ℕ × ℕ). (q.0 ≡ r.0) × (q.1 ≡ r.1)) (λ q r e. let p : tuple_of (Some (whole (pos q.0)) ∷ (Some (whole (pos q.1)) ∷ [])) ≡ tuple_of
      (Some (whole (pos r.0)) ∷ (Some (whole (pos r.1)) ∷ [])) = λ t. tuple_of
      ((ap (λ n. Some (whole (pos n))) e.0) t ∷ ((ap (λ n. Some (whole (pos n))) e.1) t ∷ [])) in p) a0 j.0.0 x.0) t ∷ ((x.1) t ∷ []))
      in same ∙ task_by w (Task-F.After j.0.0 j.0.1) j.1))
  task_level_only (Task-F.Wait a0 a1) h fit =
      lowers_then s (struct_variant_of (codes "Wait") ((codes "atLeast", Some (whole (pos a0)))
      ∷ ((codes "thenCall", slice_of (map (λ (q : String Global). Some (text (string_bytes q))) a1.items)) ∷ []))) _ (TaskLevelOnly (Task-F.Wait a0 a1))
      (struct_variant_row s task_names (codes "Wait") 3 refl
      (AtPlace 3 (Content (OfFields task_wait_names (Field (λ k. Only (λ (k : Msg) (x : ℕ). IsUnsigned 65535 k x) (λ (x y : ℕ). x ≡ y) k a0) ⊥
      (Field (λ k. Only (λ (k : Msg) (x : Vec (String Global) Global). Row (λ j q. IsRaw j (string_bytes q)) k x.items)
      (λ (x y : Vec (String Global) Global). Alike (λ (q r : String Global). string_bytes q ≡ string_bytes r) x.items y.items) k a1) ⊥ NoField)))))
      task_wait_names _ _ refl (λ m p. (refl, p))
      (fields_cons s (codes "atLeast") _ _ _ (λ k. Only (λ (k : Msg) (x : ℕ). IsUnsigned 65535 k x) (λ (x y : ℕ). x ≡ y) k a0) ⊥ _
      (unsigned_only s 65535 a0) (fields_cons s (codes "thenCall") _ _ _
      (λ k. Only (λ (k : Msg) (x : Vec (String Global) Global). Row (λ j q. IsRaw j (string_bytes q)) k x.items)
      (λ (x y : Vec (String Global) Global). Alike (λ (q r : String Global). string_bytes q ≡ string_bytes r) x.items y.items) k a1) ⊥ _
      (list_only s (slice_of (map (λ (q : String Global). Some (text (string_bytes q))) a1.items)) (λ (w : Vec (String Global) Global). w.items)
      (λ (j : Msg) (q : String Global). IsRaw j (string_bytes q)) (λ (q r : String Global). string_bytes q ≡ string_bytes r) a1.items
      (slice_row s (map (λ (q : String Global). Some (text (string_bytes q))) a1.items)
      (λ ms. ReadsEach (Only (λ (j : Msg) (q : String Global). IsRaw j (string_bytes q)) (λ (q r : String Global). string_bytes q ≡ string_bytes r)) ms
      a1.items) (each_row s (λ (q : String Global). Some (text (string_bytes q))) (λ (q : String Global). IsUtf8 (string_bytes q))
      (Only (λ (j : Msg) (q : String Global). IsRaw j (string_bytes q)) (λ (q r : String Global). string_bytes q ≡ string_bytes r))
      (λ q u. string_only s (λ (w : String Global). string_bytes w) (string_bytes q)) a1.items fit.1))) (fields_none s))))
      (λ m q w r. variant_both task_names 3 _ (TaskCase IsTask w) _ m q r
      (λ c i j. let x = content_fields task_wait_names _ _ _ c i j.2
      (λ fs q r. field_only (λ (k : Msg) (x : ℕ). IsUnsigned 65535 k x) (λ (x y : ℕ). x ≡ y) a0 j.0.0 _ _ _ _
      (last_field (λ (k : Msg) (x : Vec (String Global) Global). Row (λ j q. IsRaw j (string_bytes q)) k x.items)
      (λ (x y : Vec (String Global) Global). Alike (λ (q r : String Global). string_bytes q ≡ string_bytes r) x.items y.items) a1 j.0.1 _) fs q r) in
      let same : struct_variant_of (codes "Wait") ((codes "atLeast", Some (whole (pos a0)))
      ∷ ((codes "thenCall", slice_of (map (λ (q : String Global). Some (text (string_bytes q))) a1.items)) ∷ [])) ≡ struct_variant_of (codes "Wait")
      ((codes "atLeast", Some (whole (pos j.0.0))) ∷ ((
        codes "thenCall",
        slice_of
            (map (λ (q : String Global). Some (text (string_bytes q))) j.0.1.items),
      ) ∷ [])) = λ t. struct_variant_of (codes "Wait")
      ((codes "atLeast", (ap (λ n. Some (whole (pos n))) x.0) t)
      ∷ ((
        codes "thenCall",
        (ap slice_of (maps_alike_by (λ (q : String Global). Some (text (string_bytes q)))
            (λ (q r : String Global). string_bytes q ≡ string_bytes r) (λ q r e. ap (λ n. Some (text n)) e) a1.items j.0.1.items x.1)) t,
      ) ∷ []))
      in same ∙ task_by w (Task-F.Wait j.0.0 j.0.1) j.1))
  task_level_only (Task-F.Run a0 a1 a2 a3 None) h fit =
      lowers_then s (struct_variant_of (codes "Run") ((codes "order", order_data a0)
      ∷ ((codes "span", span_data a1) ∷ ((codes "least", Some (whole a2))
      ∷ ((codes "steps", slice_of (map task_data a3.items))
      ∷ ((codes "otherwise", option_of (λ (b : Box Task Global). task_data b.value) None) ∷ [])))))) _ (TaskLevelOnly (Task-F.Run a0 a1 a2 a3 None))
      (struct_variant_row s task_names (codes "Run") 4 refl
      (AtPlace 4 (Content (OfFields task_run_names (Field (λ k. Only (λ (k : Msg) (x : Order). IsOrder k x) (λ (x y : Order). x ≡ y) k a0) ⊥
      (Field (λ k. Only (λ (k : Msg) (x : Span). IsSpan k x) (λ (x y : Span). SameSpan x y) k a1) ⊥
      (Field (λ k. Only (λ (k : Msg) (x : ℤ). IsSigned (negsuc 32767) (pos 32767) k x) (λ (x y : ℤ). x ≡ y) k a2) ⊥
      (Field (λ k. Only (λ (k : Msg) (x : Vec Task Global). Row IsTask k x.items) (λ (x y : Vec Task Global). Alike SameTask x.items y.items) k a3) ⊥
      (Field (λ k. Only (λ (k : Msg) (x : Option (Box Task Global)). IsOption (Boxed IsTask) k x)
      (λ (x y : Option (Box Task Global)). AlikeOption (λ (b : Box Task Global) c. SameTask b.value c.value) x y) k None) ⊥ NoField))))))))
      task_run_names _ _ refl (λ m p. (refl, p))
      (fields_cons s (codes "order") _ _ _ (λ k. Only (λ (k : Msg) (x : Order). IsOrder k x) (λ (x y : Order). x ≡ y) k a0) ⊥ _ (order_only s a0)
      (fields_cons s (codes "span") _ _ _ (λ k. Only (λ (k : Msg) (x : Span). IsSpan k x) (λ (x y : Span). SameSpan x y) k a1) ⊥ _
      (span_only s a1 fit.1) (fields_cons s (codes "least") _ _ _
      (λ k. Only (λ (k : Msg) (x : ℤ). IsSigned (negsuc 32767) (pos 32767) k x) (λ (x y : ℤ). x ≡ y) k a2) ⊥ _
      (signed_only s (negsuc 32767) (pos 32767) a2) (fields_cons s (codes "steps") _ _ _
      (λ k. Only (λ (k : Msg) (x : Vec Task Global). Row IsTask k x.items) (λ (x y : Vec Task Global). Alike SameTask x.items y.items) k a3) ⊥ _
      (list_only s (slice_of (map task_data a3.items)) (λ us. us.items) IsTask SameTask a3.items
      (slice_row s (map task_data a3.items) (λ ms. ReadsEach (Only IsTask SameTask) ms a3.items)
      (each_row s task_data TaskOnly (Only IsTask SameTask) (λ w p. p) a3.items (each_from task_fits TaskOnly a3.items h.0 fit.3))))
      (fields_cons s (codes "otherwise") _ _ _ (λ k. Only (λ (k : Msg) (x : Option (Box Task Global)). IsOption (Boxed IsTask) k x)
      (λ (x y : Option (Box Task Global)). AlikeOption (λ (b : Box Task Global) c. SameTask b.value c.value) x y) k None) ⊥ _
      (option_only s (option_of (λ (b : Box Task Global). task_data b.value) None) (Boxed IsTask) (λ b c. SameTask b.value c.value) None
      (option_row s (λ (b : Box Task Global). task_data b.value) (λ b. TaskOnly b.value) (Only (Boxed IsTask) (λ b c. SameTask b.value c.value))
      (λ b. task_other s b.value) (λ b p. inside_only s (task_data b.value) (λ (b : Box Task Global). b.value) IsTask SameTask b.value p) None
      (option_from (λ (b : Box Task Global). task_fits b.value) (λ b. TaskOnly b.value) None h.1 fit.4))) (fields_none s)))))))
      (λ m q w r. variant_both task_names 4 _ (TaskCase IsTask w) _ m q r
      (λ c i j. let x = content_fields task_run_names _ _ _ c i j.2
      (λ fs q r. field_only (λ (k : Msg) (x : Order). IsOrder k x) (λ (x y : Order). x ≡ y) a0 j.0.0 _ _ _ _
      (field_only (λ (k : Msg) (x : Span). IsSpan k x) (λ (x y : Span). SameSpan x y) a1 j.0.1 _ _ _ _
      (field_only (λ (k : Msg) (x : ℤ). IsSigned (negsuc 32767) (pos 32767) k x) (λ (x y : ℤ). x ≡ y) a2 j.0.2 _ _ _ _
      (field_only (λ (k : Msg) (x : Vec Task Global). Row IsTask k x.items) (λ (x y : Vec Task Global). Alike SameTask x.items y.items) a3 j.0.3 _ _ _ _
      (last_field (λ (k : Msg) (x : Option (Box Task Global)). IsOption (Boxed IsTask) k x)
      (λ (x y : Option (Box Task Global)). AlikeOption (λ (b : Box Task Global) c. SameTask b.value c.value) x y) None j.0.4 _)))) fs q r) in
      let same : struct_variant_of (codes "Run") ((codes "order", order_data a0)
      ∷ ((codes "span", span_data a1) ∷ ((codes "least", Some (whole a2))
      ∷ ((codes "steps", slice_of (map task_data a3.items))
      ∷ ((codes "otherwise", option_of (λ (b : Box Task Global). task_data b.value) None) ∷ []))))) ≡ struct_variant_of (codes "Run")
      ((codes "order", order_data j.0.0) ∷ ((codes "span", span_data j.0.1)
      ∷ ((codes "least", Some (whole j.0.2)) ∷ ((codes "steps", slice_of (map task_data j.0.3.items))
      ∷ ((codes "otherwise", option_of (λ (b : Box Task Global). task_data b.value) j.0.4) ∷ []))))) = λ t. struct_variant_of (codes "Run")
      ((codes "order", (ap (λ n. order_data n) x.0) t) ∷
      ((codes "span", (span_alike a1 j.0.1 x.1.0) t) ∷ ((codes "least", (ap (λ n. Some (whole n)) x.1.1.0) t)
      ∷ ((codes "steps", (ap slice_of (map_alike task_data a3.items j.0.3.items x.1.1.1.0)) t)
      ∷ ((codes "otherwise", (option_alike (λ (b : Box Task Global). task_data b.value) None j.0.4 x.1.1.1.1) t) ∷ [])))))
      in same ∙ sym (task_at_Run j.0.0 j.0.1 j.0.2 j.0.3 j.0.4) ∙ task_by w (Task-F.Run j.0.0 j.0.1 j.0.2 j.0.3 j.0.4) j.1))
  task_level_only (Task-F.Run a0 a1 a2 a3 (Some a4)) h fit =
      lowers_then s (struct_variant_of (codes "Run") ((codes "order", order_data a0)
      ∷ ((codes "span", span_data a1) ∷ ((codes "least", Some (whole a2))
      ∷ ((codes "steps", slice_of (map task_data a3.items))
      ∷ ((codes "otherwise", option_of (λ (b : Box Task Global). task_data b.value) (Some a4)) ∷ [])))))) _
      (TaskLevelOnly (Task-F.Run a0 a1 a2 a3 (Some a4)))
      (struct_variant_row s task_names (codes "Run") 4 refl
      (AtPlace 4 (Content (OfFields task_run_names (Field (λ k. Only (λ (k : Msg) (x : Order). IsOrder k x) (λ (x y : Order). x ≡ y) k a0) ⊥
      (Field (λ k. Only (λ (k : Msg) (x : Span). IsSpan k x) (λ (x y : Span). SameSpan x y) k a1) ⊥
      (Field (λ k. Only (λ (k : Msg) (x : ℤ). IsSigned (negsuc 32767) (pos 32767) k x) (λ (x y : ℤ). x ≡ y) k a2) ⊥
      (Field (λ k. Only (λ (k : Msg) (x : Vec Task Global). Row IsTask k x.items) (λ (x y : Vec Task Global). Alike SameTask x.items y.items) k a3) ⊥
      (Field (λ k. Only (λ (k : Msg) (x : Option (Box Task Global)). IsOption (Boxed IsTask) k x)
      (λ (x y : Option (Box Task Global)). AlikeOption (λ (b : Box Task Global) c. SameTask b.value c.value) x y) k (Some a4)) ⊥ NoField))))))))
      task_run_names _ _ refl (λ m p. (refl, p))
      (fields_cons s (codes "order") _ _ _ (λ k. Only (λ (k : Msg) (x : Order). IsOrder k x) (λ (x y : Order). x ≡ y) k a0) ⊥ _ (order_only s a0)
      (fields_cons s (codes "span") _ _ _ (λ k. Only (λ (k : Msg) (x : Span). IsSpan k x) (λ (x y : Span). SameSpan x y) k a1) ⊥ _
      (span_only s a1 fit.1) (fields_cons s (codes "least") _ _ _
      (λ k. Only (λ (k : Msg) (x : ℤ). IsSigned (negsuc 32767) (pos 32767) k x) (λ (x y : ℤ). x ≡ y) k a2) ⊥ _
      (signed_only s (negsuc 32767) (pos 32767) a2) (fields_cons s (codes "steps") _ _ _
      (λ k. Only (λ (k : Msg) (x : Vec Task Global). Row IsTask k x.items) (λ (x y : Vec Task Global). Alike SameTask x.items y.items) k a3) ⊥ _
      (list_only s (slice_of (map task_data a3.items)) (λ us. us.items) IsTask SameTask a3.items
      (slice_row s (map task_data a3.items) (λ ms. ReadsEach (Only IsTask SameTask) ms a3.items)
      (each_row s task_data TaskOnly (Only IsTask SameTask) (λ w p. p) a3.items (each_from task_fits TaskOnly a3.items h.0 fit.3))))
      (fields_cons s (codes "otherwise") _ _ _ (λ k. Only (λ (k : Msg) (x : Option (Box Task Global)). IsOption (Boxed IsTask) k x)
      (λ (x y : Option (Box Task Global)). AlikeOption (λ (b : Box Task Global) c. SameTask b.value c.value) x y) k (Some a4)) ⊥ _
      (option_only s (option_of (λ (b : Box Task Global). task_data b.value) (Some a4)) (Boxed IsTask) (λ b c. SameTask b.value c.value) (Some a4)
      (option_row s (λ (b : Box Task Global). task_data b.value) (λ b. TaskOnly b.value) (Only (Boxed IsTask) (λ b c. SameTask b.value c.value))
      (λ b. task_other s b.value) (λ b p. inside_only s (task_data b.value) (λ (b : Box Task Global). b.value) IsTask SameTask b.value p) (Some a4)
      (option_from (λ (b : Box Task Global). task_fits b.value) (λ b. TaskOnly b.value) (Some a4) h.1 fit.4))) (fields_none s)))))))
      (λ m q w r. variant_both task_names 4 _ (TaskCase IsTask w) _ m q r
      (λ c i j. let x = content_fields task_run_names _ _ _ c i j.2
      (λ fs q r. field_only (λ (k : Msg) (x : Order). IsOrder k x) (λ (x y : Order). x ≡ y) a0 j.0.0 _ _ _ _
      (field_only (λ (k : Msg) (x : Span). IsSpan k x) (λ (x y : Span). SameSpan x y) a1 j.0.1 _ _ _ _
      (field_only (λ (k : Msg) (x : ℤ). IsSigned (negsuc 32767) (pos 32767) k x) (λ (x y : ℤ). x ≡ y) a2 j.0.2 _ _ _ _
      (field_only (λ (k : Msg) (x : Vec Task Global). Row IsTask k x.items) (λ (x y : Vec Task Global). Alike SameTask x.items y.items) a3 j.0.3 _ _ _ _
      (last_field (λ (k : Msg) (x : Option (Box Task Global)). IsOption (Boxed IsTask) k x)
      (λ (x y : Option (Box Task Global)). AlikeOption (λ (b : Box Task Global) c. SameTask b.value c.value) x y) (Some a4) j.0.4 _)))) fs q r) in
      let same : struct_variant_of (codes "Run") ((codes "order", order_data a0)
      ∷ ((codes "span", span_data a1) ∷ ((codes "least", Some (whole a2))
      ∷ ((codes "steps", slice_of (map task_data a3.items))
      ∷ ((codes "otherwise", option_of (λ (b : Box Task Global). task_data b.value) (Some a4)) ∷ []))))) ≡ struct_variant_of (codes "Run")
      ((codes "order", order_data j.0.0) ∷ ((codes "span", span_data j.0.1)
      ∷ ((codes "least", Some (whole j.0.2)) ∷ ((codes "steps", slice_of (map task_data j.0.3.items))
      ∷ ((codes "otherwise", option_of (λ (b : Box Task Global). task_data b.value) j.0.4) ∷ []))))) = λ t. struct_variant_of (codes "Run")
      ((codes "order", (ap (λ n. order_data n) x.0) t) ∷
      ((codes "span", (span_alike a1 j.0.1 x.1.0) t) ∷ ((codes "least", (ap (λ n. Some (whole n)) x.1.1.0) t)
      ∷ ((codes "steps", (ap slice_of (map_alike task_data a3.items j.0.3.items x.1.1.1.0)) t)
      ∷ ((codes "otherwise", (option_alike (λ (b : Box Task Global). task_data b.value) (Some a4) j.0.4 x.1.1.1.1) t) ∷ [])))))
      in same ∙ sym (task_at_Run j.0.0 j.0.1 j.0.2 j.0.3 j.0.4) ∙ task_by w (Task-F.Run j.0.0 j.0.1 j.0.2 j.0.3 j.0.4) j.1))

  pub task_only : (v : Task) → task_fits v → TaskOnly v
  task_only = task_induction (λ v. task_fits v → TaskOnly v)
      (λ v h fits. subst (λ d. LowersTo s d (λ m. Only IsTask SameTask m v)) (sym (task_is v))
      (lowers_then s (task_level (map-Task Task (Option Data) task_data (out-Task v))) (TaskLevelOnly (out-Task v)) (λ m. Only IsTask SameTask m v)
      (task_level_only (out-Task v) h (task_fits_out v fits)) (λ m q w r. task_is v ∙ q w (task_out m w r))))
