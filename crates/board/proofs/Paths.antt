-- A table is known by its numbers, since the facts that it carries have one proof each; and what a call leaves.
use Rattle.std.proofs.Common.{◌≡◌, ℕ, ◌≤◌, Bool, false, List, replicate, Some, None, Ok, Option, sym, ap, ◌∙◌, subst, arith}
use mathlib.Core.HLevel.{is_prop→PathP}
use native.Mathlib.Bridge.{le_prop}
use Rattle.std.specs.Array.{AllOfLen}
use Rattle.std.proofs.lemmas.List.{ext_get_or, get_or-replicate}
use Rattle.refusal.specs.declared.Refusal.{Refusal}
use Rattle.board.specs.declared.states.Node.{Node}
use Rattle.board.specs.declared.states.Table.{Table}
use Rattle.board.specs.Tables.{new_node}
use Rattle.board.specs.Setups.{if_accepted, new_table, Makes}

pub table_path : (s t : Table) → s.n ≡ t.n → s.m ≡ t.m → s.nodes ≡ t.nodes → s ≡ t
table_path s t a b e =
    λ i. record {
      n = a i;
      m = b i;
      nodes = e i;
      sizes = is_prop→PathP (λ k. (1 ≤ a k) × (a k ≤ 16) × (1 ≤ b k) × (b k ≤ 16))
          (λ k u v j. (le_prop u.0 v.0 j, le_prop u.1 v.1 j, le_prop u.2 v.2 j, le_prop u.3 v.3 j))
          s.sizes t.sizes i;
    }

-- a row of flags that are all down
none_set : (xs : List Bool) → AllOfLen (λ x. x ≡ false) xs 16 → xs ≡ replicate 16 false
none_set xs h =
    ext_get_or false xs (replicate 16 false) h.long (λ k l. h.at k false (omega (arith, l, h.long)) ∙ sym (get_or-replicate 16 k false false (omega (arith, l, h.long))))

-- a node by default is that of a new setup
pub new_default : (x : Node) → (x.faulty ≡ false) × (AllOfLen (λ b. b ≡ false) x.bits 16 × (AllOfLen (λ b. b ≡ false) x.decided 16 × AllOfLen (λ b. b ≡ false) x.finals 16)) → x ≡ new_node
new_default x h = λ k. record { faulty = h.0 k; bits = none_set x.bits h.1.0 k; decided = none_set x.decided h.1.1.0 k; finals = none_set x.finals h.1.1.1 k }

-- what a call leaves that nothing refuses
pub when_accepted : {X : Type 0} (k : Option Refusal) (x a b : X) → k ≡ None → x ≡ a → x ≡ if_accepted k a b
when_accepted k x a b z e = e ∙ ap (λ j. if_accepted j a b) (sym z)

-- what a call leaves that is refused
pub when_refused : {X : Type 0} (k : Option Refusal) (e : Refusal) (x a b : X) → k ≡ Some e → x ≡ b → x ≡ if_accepted k a b
when_refused k e x a b z h = h ∙ ap (λ j. if_accepted j a b) (sym z)

-- the answer of making a table that nothing refuses
pub when_made : (n m : ℕ) (k : Option Refusal) (t : Table) → k ≡ None → t.n ≡ n → t.m ≡ m → t.nodes ≡ replicate 16 new_node
    → Makes n m k (Ok t)
when_made n m k t z a b e =
    subst (λ (j : Option Refusal). Makes n m j (Ok t)) (sym z)
    (let s : (1 ≤ n) × (n ≤ 16) × (1 ≤ m) × (m ≤ 16) = (omega (arith, t.sizes), omega (arith, t.sizes), omega (arith, t.sizes), omega (arith, t.sizes)) in
    (s, ap (λ (x : Table). Ok x) (table_path t (new_table n m s) a b e)))
