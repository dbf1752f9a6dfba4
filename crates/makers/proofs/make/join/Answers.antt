-- `join` meets its contract: the rules and the operator stand in the workspace one behind the other.
use mathlib.Core.Path.{refl}
use mathlib.Core.List.{◌++◌, append_assoc}
use native.Mathlib.Omega.{arith}
use lib.ListN.{length-append}
use Rattle.makers.specs.Making.{most_new}
use Rattle.makers.proofs.Making.{Standing, standing_first, standing_more}
use Rattle.makers.proofs.make.join.Goals as goal
use Rattle.makers.proofs.make.join.Goals.{After-write_bytes-length}

-- all three stand there
put : (c : After-write_bytes-length)
    → Standing most_new (c.args.first.now ++ (c.args.second.now ++ c.args.operator.now)) c.write_bytes-length.new.buffer c.write_bytes-length.result
put c =
    let first : Standing most_new c.args.first.now c.write_bytes-middle.new.buffer c.write_bytes-middle.result =
    standing_first _ _ _ _ _ refl (omega (arith, c.requires)) (c.write_bytes-middle.ensures.buffer, c.write_bytes-middle.ensures.place) in
    let both : Standing most_new (c.args.first.now ++ c.args.second.now) c.write_bytes-end.new.buffer c.write_bytes-end.result =
    standing_more _ _ _ _ _ _ _ first (omega (arith, c.requires)) (c.write_bytes-end.ensures.buffer, c.write_bytes-end.ensures.place) in
    rw append_assoc at
    (standing_more _ _ _ _ _ _ _ both (omega (arith, length-append c.args.first.now c.args.second.now, c.requires))
    (c.write_bytes-length.ensures.buffer, c.write_bytes-length.ensures.place))

pub slice_bounds-work-end : goal.slice_bounds-work-end
slice_bounds-work-end c = let p = put (goal.at.slice_bounds-work-end c).After-write_bytes-length in omega (arith, p.own_end, p.own_size, p.inside)

pub slice_bounds-conclude-end : goal.slice_bounds-conclude-end
slice_bounds-conclude-end c = let p = put (goal.at.slice_bounds-conclude-end c).After-write_bytes-length in rw p.own_bytes p.own_end

pub returns : goal.returns
returns c = rw (put (goal.at.returns c).After-write_bytes-length).own_bytes at c.conclude.ensures
