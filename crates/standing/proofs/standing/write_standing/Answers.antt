-- `write_standing` meets its contract: what is told of the rule says which text it writes, for which there is room.
use Rattle.std.proofs.Common.{arith, rules}
use Rattle.standing.proofs.Stands.{room, stands}
use Rattle.standing.proofs.standing.write_standing.Goals as goal

pub write-requires : goal.write-requires
write-requires c =
    let told = c.standing_of-standing.ensures in
    (told.within, room told c.args.text.now (λ i. omega (arith, c.type_inv.rule i)) c.requires)

pub returns : goal.returns
returns c =
    stands c.standing_of-standing.ensures c.args.text.now (λ i. omega (arith, c.type_inv.rule i)) c.requires c.write.ensures.puts (search rules)
