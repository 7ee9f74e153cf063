-- What the calls on a desk leave: its boards are always long enough.
use Rattle.std.proofs.Common.{◌≡◌, ℕ, ◌*◌, Bool, true, List, length, Some, None, Ok, Option, Result, refl, ap, ◌∙◌, arith}
use Rattle.std.proofs.lemmas.Bool.{le-leb}
use Rattle.refusal.specs.declared.Refusal.{Refusal}
use Rattle.refusal.specs.Refusals.{answered}
use Rattle.board.specs.declared.states.Table.{Table}
use Rattle.board.specs.declared.states.Decision.{Decision}
use Rattle.board.specs.Tables.{fits, cells_needed}
use Rattle.board.specs.Setups.{if_accepted}
use Rattle.board.specs.Looks.{decision_refusal, decision_of}
use Rattle.agreement.specs.declared.states.Setup.{Setup}
use Rattle.agreement.specs.declared.states.Instance.{Instance}
use Rattle.coin.specs.Tosses.{strip_toss}
use Rattle.law.specs.declared.calls.SetupCall.{SetupCall}
use Rattle.law.specs.declared.calls.Call.{Call}
use Rattle.law.specs.declared.calls.Call.TheVariants as call
use Rattle.law.specs.declared.calls.Told.{Told}
use Rattle.law.specs.Runs.{Prepared, setup_answer, setup_after, World, refusal, says, effect, answered_by, after}
use Rattle.play.specs.Moves.{Lent, fits_call, move_of, setup_move_of, SetupMade, Made, world_of}
use Rattle.desk.specs.declared.stage.Stage.TheVariants.{Making, Running}
use Rattle.desk.specs.declared.stage.Reply.{Reply}
use Rattle.desk.specs.Views.{Held}
use Rattle.desk.specs.Desks.{done_reply, seen_reply, prepares, setup_move, with_setup, looks, acts, world, with_world}
use Rattle.desk.proofs.Boards.{few_cells, few_pairs}

-- boards of 256 and of 4096 places are long enough
pub cells_fit : {X : Type 0} (t : Table) (xs : List X) → length xs ≡ 256 → fits (t.n * t.m) xs ≡ true
cells_fit t xs e = let h = few_cells t.n t.m t.sizes.1 t.sizes.3 in le-leb (t.n * t.m) (length xs) (omega arith)

pairs_fit : {X : Type 0} (t : Table) (xs : List X) → length xs ≡ 4096 → fits (t.n * t.n * t.m) xs ≡ true
pairs_fit t xs e = let h = few_pairs t.n t.m t.sizes.1 t.sizes.3 in le-leb (t.n * t.n * t.m) (length xs) (omega arith)

-- The lengths of a desk's boards.
pub record Long {R : Type 0} (b : Lent R) : Type 0 where
  pub values : length b.values ≡ 256
  pub scratch : length b.scratch ≡ 256
  pub sent : length b.sent ≡ 4096
  pub marks : length b.marks ≡ 4096

calls_fit : {R : Type 0} (t : Table) (b : Lent R) → Long b → (k : Call R) → fits_call t.n t.m b k ≡ true
calls_fit t b l (call.SendValue i j c x) = rw (pairs_fit t b.sent l.sent, pairs_fit t b.marks l.marks)
calls_fit t b l (call.SendBit i j c k) = pairs_fit t b.marks l.marks
calls_fit t b l (call.SendFinal i j) = refl
calls_fit t b l call.Close =
    rw (cells_fit t b.values l.values, cells_fit t b.scratch l.scratch, pairs_fit t b.sent l.sent, pairs_fit t b.marks l.marks)
calls_fit t b l (call.Decision i c) = cells_fit t b.values l.values
calls_fit t b l (call.Undecided places) = refl

module _ {R : Type 0} (h : Held R) where
  -- a look at a table, on the values board as it was lent
  pub looked : (t : Table) (i c : ℕ) (vs : List (Option R)) (d : Result (Decision R) Refusal) (r : Result (Reply R) Refusal) → vs ≡ h.values → length vs ≡ 256
      → d ≡ answered (decision_refusal t (fits (cells_needed t) vs) i c) (decision_of t vs i c) → r ≡ seen_reply i c d → r ≡ (looks h i c t).reply
  looked t i c vs d r ev l ed er =
      er ∙ ap (seen_reply i c) (ed
      ∙ ap (λ b. answered (decision_refusal t b i c) (decision_of t vs i c)) (cells_fit t vs l)
      ∙ ap (λ xs. answered (decision_refusal t true i c) (decision_of t xs i c)) ev)

  -- a call on the setup
  pub prepared_by : (s s' : Setup) (k : SetupCall R) (vs vs' : List (Option R)) (a : Result (Told R) Refusal) (r : Result (Reply R) Refusal) → vs ≡ h.values → length vs ≡ 256
      → SetupMade (setup_move_of s.table.n s.table.m vs k) (record { table = s.table; values = vs }) (record { table = s'.table; values = vs' }) a
      → r ≡ done_reply a
      → (r ≡ (prepares h k s).reply) × (◌≡◌ {A = Held R} (record { stage = Some (Making s'); values = vs'; sent = h.sent; marks = h.marks; strip = h.strip }) (prepares h k s).held)
  prepared_by s s' k vs vs' a r ev l m er =
      let p : List (Option R) → Prepared R = λ xs. record { table = s.table; values = xs } in
      let fit = cells_fit s.table vs l in (
        er ∙ ap done_reply (m.answer
            ∙ ap (λ b. setup_answer (p vs) (record { call = k; fits = b })) fit
            ∙ ap (λ xs. setup_answer (p xs) (setup_move k)) ev),
        ap (with_setup h) (m.setup
            ∙ ap (λ b. setup_after (p vs) (record { call = k; fits = b })) fit
            ∙ ap (λ xs. setup_after (p xs) (setup_move k)) ev),
      )

  -- a send or a close on the instance
  pub acted_by : (meaning : R → ℕ) (s s' : Instance) (k : Call R) (es : List ℕ) (b b' : Lent R) (a : Result (Told R) Refusal) (r : Result (Reply R) Refusal) → es ≡ h.strip → Long b
      → b.values ≡ h.values → b.sent ≡ h.sent → b.marks ≡ h.marks
      → Made meaning (move_of s.table.n s.table.m b (λ node round item. strip_toss es round item) k) (world_of s b) (world_of s' b') a
      → r ≡ done_reply a
      → (r ≡ (acts meaning h k s).reply) × (◌≡◌ {A = Held R} (record { stage = Some (Running s'); values = b'.values; sent = b'.sent; marks = b'.marks; strip = h.strip }) (acts meaning h k s).held)
  unfolding answered_by after
  acted_by meaning s s' k es b b' a r ee l ev et em m er =
      let fit = calls_fit s.table b l k in
      let w : world_of s b ≡ world h s = cc in
      let left : Bool → World R → List ℕ → World R =
      λ f x xs. if_accepted (refusal x f k) (effect meaning (λ node round item. strip_toss xs round item) x k) x in (
        er ∙ ap done_reply (m.answer
            ∙ ap (λ f. answered (refusal (world_of s b) f k) (says (world_of s b) k)) fit
            ∙ ap (λ x. answered (refusal x true k) (says x k)) w),
        ap (with_world h) (m.world
            ∙ ap (λ f. left f (world_of s b) es) fit ∙ ap (λ x. left true x es) w ∙ ap (λ xs. left true (world h s) xs) ee),
      )

-- a strip that was made stands over the entries that it was given
pub strip_entries : (o : Option Refusal) (es xs : List ℕ) → Ok es ≡ answered o xs → es ≡ xs
strip_entries None es xs e = cc
strip_entries (Some d) es xs e = absurd (let z : ◌≡◌ {A = ℕ} 0 1 = cc in omega arith)
