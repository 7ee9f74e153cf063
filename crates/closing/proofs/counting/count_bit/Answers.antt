use Rattle.std.proofs.Common.{rules, get_or, nat_eq, ◌∙◌, arith}
use borrow.Author.Tests.{tests}
use Rattle.std.proofs.lemmas.Iterator.{YieldsList-from_range}
use Rattle.std.proofs.lemmas.Iterator.Consumers.{YieldsList-from_filter, count_from_yields_List}
use Rattle.closing.specs.Counting.{mark_of}
use Rattle.closing.proofs.Nodes.{over_nodes}
use Rattle.closing.proofs.counting.count_bit.Goals as goal

pub returns : goal.returns
returns g c =
    let xs = g.H.Hearing.marks c.args.heard.now in
    let n = c.mark_count.result in
    count_from_yields_List _ _ c.count.ensures.ran
    (YieldsList-from_filter _ (λ i. nat_eq (get_or xs i 0) (mark_of c.args.bit)) (YieldsList-from_range 0 n n (cc) (omega arith)) c.filter.ensures.closure (λ x r q k. search (rules, tests)))
    ∙ over_nodes (λ k. nat_eq k (mark_of c.args.bit)) 0 xs n c.mark_count.ensures
