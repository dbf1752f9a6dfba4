-- `write_decimal` meets its contract: no bytes are asked for behind what is written.
use Rattle.text.proofs.Before.{before_none}
use Rattle.text.proofs.digits.write_decimal.Goals as goal

pub returns : goal.returns
returns c =
    let (own, place) = before_none _ _ _ _ _ c.write_before.ensures c.unwrap_or.ensures in record { buffer = own; place = place }
