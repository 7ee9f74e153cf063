-- The boards of a participant suffice for all sizes.
use Rattle.std.proofs.Common.{◌≡◌, ℕ, ◌*◌, ◌≤◌, true, List, [], ◌∷◌, length, refl, ap, ◌∙◌, mul-le-mul, arith}
use Rattle.std.proofs.lemmas.Bool.{le-leb}
use Rattle.board.specs.declared.states.Table.{Table}
use Rattle.board.specs.Tables.{fits}
use Rattle.coin.specs.Tosses.{strip_toss}
use Rattle.law.specs.declared.calls.Call.{Call}
use Rattle.law.specs.declared.calls.Call.TheVariants as call
use Rattle.play.specs.Moves.{Lent, fits_call, moves_of}
use Rattle.participant.specs.Participants.{strip_move, strip_moves}

-- the most cells and pairs that a run needs
pub few_cells : (n m : ℕ) → n ≤ 16 → m ≤ 16 → n * m ≤ 256
few_cells n m a b = mul-le-mul a b

pub few_pairs : (n m : ℕ) → n ≤ 16 → m ≤ 16 → n * n * m ≤ 4096
few_pairs n m a b = mul-le-mul (mul-le-mul a a) b

-- boards of 256 and of 4096 places are long enough
pub cells_fit : {X : Type 0} (t : Table) (xs : List X) → length xs ≡ 256 → fits (t.n * t.m) xs ≡ true
cells_fit t xs e = let h = few_cells t.n t.m t.sizes.1 t.sizes.3 in le-leb (t.n * t.m) (length xs) (omega arith)

pub pairs_fit : {X : Type 0} (t : Table) (xs : List X) → length xs ≡ 4096 → fits (t.n * t.n * t.m) xs ≡ true
pairs_fit t xs e = let h = few_pairs t.n t.m t.sizes.1 t.sizes.3 in le-leb (t.n * t.n * t.m) (length xs) (omega arith)

-- The lengths of a participant's boards.
pub record Long {R : Type 0} (b : Lent R) : Type 0 where
  pub values : length b.values ≡ 256
  pub scratch : length b.scratch ≡ 256
  pub sent : length b.sent ≡ 4096
  pub marks : length b.marks ≡ 4096

module _ {R : Type 0} (t : Table) (b : Lent R) (l : Long b) where
  calls_fit : (k : Call R) → fits_call t.n t.m b k ≡ true
  calls_fit (call.SendValue i j c x) = rw (pairs_fit t b.sent l.sent, pairs_fit t b.marks l.marks)
  calls_fit (call.SendBit i j c k) = pairs_fit t b.marks l.marks
  calls_fit (call.SendFinal i j) = refl
  calls_fit call.Close =
      rw (cells_fit t b.values l.values, cells_fit t b.scratch l.scratch, pairs_fit t b.sent l.sent, pairs_fit t b.marks l.marks)
  calls_fit (call.Decision i c) = cells_fit t b.values l.values
  calls_fit (call.Undecided places) = refl

  -- the calls as they are made with a participant's boards and its strip
  pub moves_fit : (es : List ℕ) (ks : List (Call R)) → moves_of t.n t.m b (λ node round item. strip_toss es round item) ks ≡ strip_moves es ks
  moves_fit es [] = refl
  moves_fit es (k ∷ ks) =
      ap (λ f. record { call = k; tosses = λ node round item. strip_toss es round item; fits = f } ∷ moves_of t.n t.m b (λ node round item. strip_toss es round item) ks) (calls_fit k)
      ∙ ap (λ vs. strip_move es k ∷ vs) (moves_fit es ks)
