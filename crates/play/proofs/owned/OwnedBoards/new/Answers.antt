use Rattle.std.proofs.Common.{◌≡◌, Some, None, Option, refl}
use Rattle.play.proofs.owned.OwnedBoards.new.Goals as goal

-- where no reading is a clone of none, none is its only clone
none_only : {R : Type 0} (P : Option R → Type 0) → ((z : R) → P (Some z) → ⊥) → (y : Option R) → P y → y ≡ None
none_only P f None h = refl
none_only P f (Some z) h = absurd (f z h)

pub returns-clause-values : goal.returns-clause-values
returns-clause-values g c = c.in_ok-vec.ensures.items_if_clones_equal (none_only _ (λ z h. h))

pub returns-clause-scratch : goal.returns-clause-scratch
returns-clause-scratch g c = c.in_ok-vec-2.ensures.items_if_clones_equal (none_only _ (λ z h. h))

pub returns-clause-sent : goal.returns-clause-sent
returns-clause-sent g c = c.in_ok-vec-3.ensures.items_if_clones_equal (none_only _ (λ z h. h))
