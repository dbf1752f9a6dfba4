-- The first demand, as far as it is about answers: the library "checks rules, code, clips and room itself and refuses
-- by 01's numbers, exactly under their conditions, in its order. A refusal changes nothing in the caller's buffers,
-- except that 15 leaves the table zero." Each entry's part says so of it. The conditions and their order are those of
-- the definitions that the parts name (`read_rule`, `read_code`, `emitted_of`, `ran_of`, `SearchSays`, `one_made`,
-- `two_made`); a word tells what they give, by the header's accessors. That no input makes a function read outside a
-- buffer, overflow or run on is what the check proves of every function.
use Rattle.thistlecart.specs.Emit.{EmitDemand}
use Rattle.thistlecart.specs.Load.{LoadDemand}
use Rattle.thistlecart.specs.Make.{OneRuleDemand, TwoRulesDemand}
use Rattle.thistlecart.specs.Run.{RunDemand}
use Rattle.thistlecart.specs.Search.{SearchDemand}

-- The demand, entry by entry
pub record DemandOne : Type 0 where
  -- thistlecart_load
  pub load : LoadDemand
  -- thistlecart_search
  pub search : SearchDemand
  -- thistlecart_emit
  pub emit : EmitDemand
  -- thistlecart_run
  pub run : RunDemand
  -- thistlecart_negate and thistlecart_next
  pub one_rule : OneRuleDemand
  -- thistlecart_both and thistlecart_either
  pub two_rules : TwoRulesDemand
