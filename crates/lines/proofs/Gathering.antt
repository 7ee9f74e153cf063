use Rattle.std.proofs.Common.{◌≡◌, ℕ, zero, suc, ◌+◌, ◌<◌, ◌≤◌, true, false, ltb, leb, List, [], ◌∷◌, ◌++◌, length, get_or, take, Some, None, refl, ⊎_elim, arith}
use Rattle.std.proofs.lemmas.List.{take_more, length_push}
use Rattle.std.proofs.lemmas.Bool.{lt-ltb, le-ltb, le-leb, lt-leb, cases_lt, cond_both}
use Rattle.lines.specs.Gathered.{begun, pushed, gathered}

-- a full line holds no further octet
full_push : (limit : ℕ) (bs : List ℕ) (b : ℕ) → limit ≤ length bs → pushed limit (gathered limit bs) b ≡ None
full_push limit bs b h =
    let full : ltb (length bs) limit ≡ false = le-ltb (length bs) limit h in
    cond_both (leb (length bs) limit) (Some bs) None (λ o. pushed limit o b ≡ None) (λ _. rw full) (λ _. refl)

-- one more octet onto what these octets gather
pub gathered_push : (limit : ℕ) (bs : List ℕ) (b : ℕ) → pushed limit (gathered limit bs) b ≡ gathered limit (bs ++ (b ∷ []))
gathered_push limit bs b =
    ⊎_elim
    (λ h.
    let fits : leb (length bs) limit ≡ true = le-leb (length bs) limit (omega arith) in
    let more : leb (length (bs ++ (b ∷ []))) limit ≡ true = le-leb _ limit (omega (arith, length_push bs b)) in
    let room : ltb (length bs) limit ≡ true = lt-ltb (length bs) limit h in
    rw (fits, more, room))
    (λ h.
    let over : leb (length (bs ++ (b ∷ []))) limit ≡ false = lt-leb _ limit (omega (arith, length_push bs b)) in
    rw over (full_push limit bs b h))
    (cases_lt (length bs) limit)

-- the turn of a loop that pushes
pub gathered_more : (limit : ℕ) (bs : List ℕ) (i : ℕ) → i < length bs → pushed limit (gathered limit (take i bs)) (get_or bs i 0) ≡ gathered limit (take (i + 1) bs)
gathered_more limit bs i h = rw (take_more bs i 0 h) (gathered_push limit (take i bs) (get_or bs i 0))

-- an octet has come if one is held
pub begun_some : (os : List ℕ) (n : ℕ) → n ≤ length os → ltb 0 n ≡ begun (Some (take n os))
begun_some os zero h = refl
begun_some [] (suc n) h = absurd (omega arith)
begun_some (b ∷ os) (suc n) h = lt-ltb 0 (suc n) (omega arith)
