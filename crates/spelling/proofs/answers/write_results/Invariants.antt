use Rattle.std.proofs.Common.{◌≡◌, ◌++◌, map, take, vec_items}
use Rattle.spelling.specs.Answers.{spaced, result_text}
use Rattle.spelling.proofs.answers.write_results.Given as goal

abbrev pub invariant-loop-result : goal.invariant-loop-result
invariant-loop-result g l =
    vec_items l.text ≡ vec_items l.initial.text ++ spaced (map (result_text g.R.Spelled.spelled) (take l.result-index l.results))
