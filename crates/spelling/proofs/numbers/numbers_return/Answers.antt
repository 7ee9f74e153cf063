use Rattle.spelling.specs.DigitLaws.{digits_back}
use Rattle.spelling.proofs.numbers.numbers_return.Goals as goal

pub returns : goal.returns
returns c = digits_back
