use Rattle.std.proofs.Common.{◌∙◌, ◌<◌, length, refl, rules, arith}
use Rattle.play.specs.declared.boards.Boards.{Boards}
use Rattle.play.specs.Moves.{Lent}
use Rattle.play.specs.Lending.{lent, SameBoards, SameLengths}
use Rattle.play.proofs.Pushes.{call_none, call_step, call_end}
use Rattle.play.proofs.script.make_calls.Goals as goal

boards_on : {R : Type 0} (a b d : Boards R) → SameBoards a b → SameBoards b d → SameBoards a d
boards_on a b d x y = record { values = x.values ∙ y.values; scratch = x.scratch ∙ y.scratch; sent = x.sent ∙ y.sent; marks = x.marks ∙ y.marks }

lengths_on : {R : Type 0} (a b d : Lent R) → SameLengths a b → SameLengths b d → SameLengths a d
lengths_on a b d x y = record { values = x.values ∙ y.values; scratch = x.scratch ∙ y.scratch; sent = x.sent ∙ y.sent; marks = x.marks ∙ y.marks }

pub loop-k-init : goal.loop-k-init
loop-k-init g c = (
  call_none g.R.Reading.meaning (g.C.Coin.tosses c.args.coin.now) c.args.instance.now (lent c.args.boards.now) c.args.calls.now c.args.answers.now,
  record { values = refl; scratch = refl; sent = refl; marks = refl },
  record { values = refl; scratch = refl; sent = refl; marks = refl },
)

pub offset_bounds-answers-k : goal.offset_bounds-answers-k
offset_bounds-answers-k g c = let h : c.loop-k.k < length c.args.answers.now = omega (arith, c.requires, c.loop-k-test.true) in search rules

pub loop-k-preserved : goal.loop-k-preserved
loop-k-preserved g c = (
  call_step g.R.Reading.meaning (g.C.Coin.tosses c.args.coin.now) c.args.instance.now c.loop-k.instance c.apply.new.instance
      (lent c.args.boards.now) (lent c.loop-k.boards) (lent c.apply.new.boards)
      c.args.calls.now c.loop-k.k c.args.answers.now c.loop-k.answers _ c.apply.result c.index-calls-k.result
      c.loop-k-test.true c.requires c.loop-k.invariant.2
      c.index-calls-k.is c.apply.ensures.made c.apply.ensures.rest refl c.loop-k.invariant.0,
  boards_on c.apply.new.boards c.loop-k.boards c.args.boards.now c.apply.ensures.same_boards c.loop-k.invariant.1,
  lengths_on (lent c.apply.new.boards) (lent c.loop-k.boards) (lent c.args.boards.now) c.apply.ensures.same_lengths c.loop-k.invariant.2,
)

pub returns : goal.returns
returns g c =
    let h = call_end g.R.Reading.meaning (g.C.Coin.tosses c.args.coin.now) c.args.instance.now c.loop-k.instance
    (lent c.args.boards.now) (lent c.loop-k.boards)
    c.args.calls.now c.loop-k.k c.args.answers.now c.loop-k.answers (omega arith) c.loop-k.invariant.0 in
    record { world = h.world; answers = h.answers_are; rest = c.loop-k.invariant.0.rest; same_boards = c.loop-k.invariant.1; same_lengths = c.loop-k.invariant.2 }
