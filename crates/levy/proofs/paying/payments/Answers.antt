-- `levy::payments` meets its contract: it only lends columns.
use Rattle.std.proofs.Common.{List, ℕ, ◌++◌, drop, refl, ap, sym}
use Rattle.columns.proofs.Table.{front_long}
use Rattle.levy.proofs.Making.{pay-spread, payments-made}
use Rattle.levy.proofs.paying.payments.Goals as goal

pub pay_open-requires : goal.pay_open-requires
pay_open-requires c =
    pay-spread _ _ _ _ _ _ c.requires _ c.open_weights.ensures.0 c.open_weights.ensures.1 _ (sym (front_long _ _ 256 refl c.requires.few))

pub returns : goal.returns
returns c =
    ap (λ (xs : List ℕ). xs ++ drop c.args.n c.args.caps.now)
    (payments-made _ _ _ _ _ _ c.requires _ c.open_weights.ensures.0 _ c.pay_open.ensures)
