-- `same_key` meets its contract: so many bytes are equal to the key exactly if each is.
use Rattle.std.proofs.Common.{arith, sym, ◌∙◌}
use Rattle.std.specs.Cmp.Lexicographic.{bytes_decides}
use Rattle.table.proofs.Records.{key_front}
use Rattle.table.proofs.record.same_key.Goals as goal

pub returns : goal.returns
returns c =
    let (has, is) = key_front c.args.key.now c.args.bytes.now (omega arith) (omega arith) in
    let (same, equal) = bytes_decides _ _ in
    (λ t. has (same (sym c.eq.ensures ∙ t)), λ all. c.eq.ensures ∙ equal (is all))
