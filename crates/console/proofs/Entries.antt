-- One entry more of a strip.
use Rattle.std.proofs.Common.{◌≡◌, ℕ, zero, suc, ◌+◌, ◌<◌, List, ◌++◌, length, set, Ok, Err, Result, sym, ap, ◌∙◌, ⊎_elim, add-one, arith}
use Rattle.std.proofs.lemmas.Bool.{cases_order}
use Rattle.std.proofs.lemmas.List.{set-append_left}
use Rattle.refusal.specs.declared.Fault.{Fault}
use Rattle.console.specs.Grammar.{◌>>=◌, entry_at, entries_of}

-- the entries as an answer
abbrev the_ok : List ℕ → Result (List ℕ) Fault
the_ok es = Ok es

-- an entry is read, and put in its place among those that are wanted
pub entries_more : (fs : List (List ℕ)) (es zs : List ℕ) (k e : ℕ) → k < length es → Ok (es ++ zs) ≡ entries_of fs k → Ok e ≡ entry_at fs (k + 1)
    → Ok (set es k e ++ zs) ≡ entries_of fs (k + 1)
entries_more fs es zs k e within before here =
    ap (λ xs. the_ok xs) (sym (set-append_left es zs k e within))
    ∙ sym (ap (entries_of fs) (add-one k)
    ∙ ap (λ (r : Result (List ℕ) Fault). r >>= λ xs. entry_at fs (k + 1) >>= λ x. Ok (set xs k x)) (sym before)
    ∙ ap (λ (r : Result ℕ Fault). r >>= λ x. Ok (set (es ++ zs) k x)) (sym here))

-- a field that is no entry is the fault of all of them
pub entries_none : (fs : List (List ℕ)) (es : List ℕ) (k n : ℕ) (d : Fault) → k < n → Ok es ≡ entries_of fs k → Err d ≡ entry_at fs (k + 1)
    → entries_of fs n ≡ Err d
entries_none fs es k zero d less before here = absurd (omega arith)
entries_none fs es k (suc n) d less before here =
    ⊎_elim
    (λ q. ap (λ (i : ℕ). entries_of fs (suc i)) (sym q)
    ∙ ap (λ (r : Result (List ℕ) Fault). r >>= λ xs. entry_at fs (k + 1) >>= λ x. Ok (set xs k x)) (sym before)
    ∙ ap (λ (r : Result ℕ Fault). r >>= λ x. Ok (set es k x)) (sym here))
    (⊎_elim
    (λ q. ap (λ (r : Result (List ℕ) Fault). r >>= λ xs. entry_at fs (n + 1) >>= λ x. Ok (set xs n x)) (entries_none fs es k n d q before here))
    (λ q. absurd (omega arith)))
    (cases_order k n)
