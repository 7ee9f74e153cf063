-- A run of a kind is begun on a desk that was made.
use Rattle.std.proofs.Common.{◌≡◌, ℕ, Bool, true, false, Some, None, Ok, Err, refl, ap, ◌∙◌, arith}
use native.Mathlib.Bridge.{le_prop}
use Rattle.std.specs.Result.{result_map_both}
use Rattle.refusal.specs.declared.Refusal.{Refusal}
use Rattle.refusal.specs.declared.Refusal.TheVariants.{BadSize}
use Rattle.refusal.specs.declared.Failure.{Failure}
use Rattle.refusal.specs.declared.Failure.TheVariants.{Refused, OutOfMemory}
use Rattle.refusal.specs.Failures.{IfEnough}
use Rattle.refusal.specs.Refusals.{refuse}
use Rattle.law.specs.Law.{Sizes}
use Rattle.play.specs.Played.{bad_sizes}
use Rattle.reading.specs.declared.kind.Kind.{Kind}
use Rattle.desk.specs.declared.stage.Desk.{Desk}
use Rattle.desk.specs.Views.{Held}
use Rattle.desk.specs.Desks.{Makes, size_refusal, new_desk}
use Rattle.transcript.specs.declared.types.Run.{Run}
use Rattle.transcript.specs.Runs.{Standing, standing, right_sizes, new_run, run_unless, made_run}

-- right sizes are so in one way
sizes_same : {n m : ℕ} (a b : Sizes n m) → a ≡ b
sizes_same a b =
    λ i. record {
      some_node = le_prop a.some_node b.some_node i;
      few_nodes = le_prop a.few_nodes b.few_nodes i;
      some_item = le_prop a.some_item b.some_item i;
      few_items = le_prop a.few_items b.few_items i;
    }

-- a desk that was refused begins no run
module _ (R : Type 0) (n m : ℕ) (k : Kind) where
  refused_unless : (bad : Bool) (shown : bad ≡ false → Sizes n m) (e : Refusal) → Makes {R = R} n m (refuse bad BadSize None) (Err e) → Err e ≡ run_unless n m k bad shown
  refused_unless true shown e h = let t : e ≡ BadSize = cc in ap Err t
  refused_unless false shown e h = absurd (let x = h.1 in let z : ◌≡◌ {A = ℕ} 0 1 = cc in omega arith)

  pub not_begun : (d : Failure) → IfEnough {X = Desk R} (Err d) (λ a. Makes n m (size_refusal n m) a)
      → IfEnough {X = Run} (Err d) (λ a. result_map_both (λ r. standing (Some r)) (λ e. e) a ≡ made_run n m k)
  not_begun (Refused e) h = refused_unless (bad_sizes n m) (right_sizes n m) e h
  not_begun OutOfMemory h = tt

-- a desk that was made begins the run of its kind
module _ {R : Type 0} (n m : ℕ) (k : Kind) (f : Held R → Standing) (d : Desk R) (same : (s : Sizes n m) → f (new_desk n m s) ≡ new_run k n m s) where
  begun_unless : (bad : Bool) (shown : bad ≡ false → Sizes n m) → Makes n m (refuse bad BadSize None) (Ok d) → Ok (f d) ≡ run_unless n m k bad shown
  begun_unless true shown h = absurd (let z : ◌≡◌ {A = ℕ} 0 1 = cc in omega arith)
  begun_unless false shown h =
      let begun : d ≡ new_desk n m h.0 = (let x = h.1 in cc) in
      ap Ok (ap f begun ∙ same h.0 ∙ ap (λ s. new_run k n m s) (sizes_same h.0 (shown refl)))

  pub begun_on : Makes n m (size_refusal n m) (Ok d) → Ok (f d) ≡ made_run n m k
  begun_on h = begun_unless (bad_sizes n m) (right_sizes n m) h
