use Rattle.std.proofs.Common.{◌≡◌, codes, rules}
use Rattle.text.specs.Digits.{decimal}
use Rattle.test_records.proofs.Writing.{adds_more}
use Rattle.test_records.proofs.output.Output.bad.Goals as goal

pub returns : goal.returns
returns c =
    let number : c.from.result ≡ c.args.number = search rules in
    let digits = rw number at c.number.ensures in
    adds_more (codes "BAD\t") (decimal c.args.number) c.args.self.now c.text.new.self c.number.new.self c.text.ensures digits
