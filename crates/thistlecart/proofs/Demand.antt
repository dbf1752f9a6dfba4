-- The first demand: each entry meets its part of it.
use Rattle.thistlecart.specs.Demand.{DemandOne}
use Rattle.thistlecart.proofs.EmitEntry.{emit_demand}
use Rattle.thistlecart.proofs.LoadEntry.{load_demand}
use Rattle.thistlecart.proofs.MakeEntry.{one_rule_demand, two_rules_demand}
use Rattle.thistlecart.proofs.RunEntry.{run_demand}
use Rattle.thistlecart.proofs.SearchEntry.{search_demand}

pub demand_one : DemandOne
demand_one =
    record {
      load = load_demand;
      search = search_demand;
      emit = emit_demand;
      run = run_demand;
      one_rule = one_rule_demand;
      two_rules = two_rules_demand;
    }
