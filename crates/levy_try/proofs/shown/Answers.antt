-- `levy_try::shown` meets its contract.
use Rattle.levy_try.proofs.Cases.{fit, pay-asked, told, made}
use Rattle.levy_try.proofs.shown.Goals as goal

pub rounds-rest-requires : goal.rounds-rest-requires
rounds-rest-requires c = search fit

pub payments-requires : goal.payments-requires
payments-requires c = search pay-asked

pub returns : goal.returns
returns c = (search told, search made)
