use Rattle.std.proofs.Common.{◌≡◌, Ok, Err, ap, ◌∙◌}
use Rattle.std.proofs.lemmas.Result.{err_from_is_err_and}
use Rattle.lines.specs.Fields.{fields}
use Rattle.console.specs.Grammar.{bit_at, number_at}
use Rattle.console.specs.Spots.{Spot, passed}
use Rattle.console.proofs.commands.parse_command.Goals as goal

pub returns-in_err-bit-in-Bit : goal.returns-in_err-bit-in-Bit
returns-in_err-bit-in-Bit g c =
    let fs = fields 32 c.args.line.now in
    let d = c.in_err-bit-in-Bit.field-0.0 in
    let p = err_from_is_err_and {Q = λ y. y ≡ d} c.from_residual-in_err-bit-in-Bit.result c.from_residual-in_err-bit-in-Bit.ensures.1 in
    let second : c.number-in-Bit.new.self ≡ record { fields = fs; index = 2 } = c.in_ok-sender-in-Bit.ensures.walk ∙ ap passed c.after_letter-walk.ensures in
    let third : c.number-in-Bit-2.new.self ≡ record { fields = fs; index = 3 } = c.in_ok-receiver-in-Bit.ensures.walk ∙ ap passed second in
    let fourth : c.number-in-Bit-3.new.self ≡ record { fields = fs; index = 4 } = c.in_ok-item-in-Bit.ensures.walk ∙ ap passed third in
    let sender : Ok c.in_ok-sender-in-Bit.sender ≡ number_at fs 1 = c.in_ok-sender-in-Bit.ensures.value ∙ ap (λ (s : Spot). number_at s.fields s.index) c.after_letter-walk.ensures in
    let receiver : Ok c.in_ok-receiver-in-Bit.receiver ≡ number_at fs 2 = c.in_ok-receiver-in-Bit.ensures.value ∙ ap (λ (s : Spot). number_at s.fields s.index) second in
    let item : Ok c.in_ok-item-in-Bit.item ≡ number_at fs 3 = c.in_ok-item-in-Bit.ensures.value ∙ ap (λ (s : Spot). number_at s.fields s.index) third in
    let bit : Err d ≡ bit_at fs 4 = c.in_err-bit-in-Bit.ensures.value ∙ ap (λ (s : Spot). bit_at s.fields s.index) fourth in
    rw (p.1, p.2, c.in-Bit.is, ← sender, ← receiver, ← item, ← bit)
