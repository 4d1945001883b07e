-- `settle::stages::write_lines` meets its contract: each stage finds what the one before left (proofs/Stated.antt).
use Rattle.std.proofs.Common.{arith}
use Rattle.settle.proofs.Answered.{few-rows, head-there}
use Rattle.settle.proofs.Stated.{asked-trade, asked-account, asked-levy, asked-divide, lines-told, top-told}
use Rattle.settle.proofs.stages.write_lines.Goals as goal

pub head_at-head-requires : goal.head_at-head-requires
head_at-head-requires c = search head-there

pub trade-market-requires : goal.trade-market-requires
trade-market-requires c =
    let p = c.requires in
    asked-trade _ _ _ p.correction_value.0 _ p.n_in_bounds _ c.head_at-head.ensures _ c.first_turn-first.ensures _ c.read-averaged.ensures.value
    _ c.read-averaged.ensures.sheet_after

pub account-accounts-requires : goal.account-accounts-requires
account-accounts-requires c =
    let p = c.requires in
    asked-account _ _ _ p.correction_value.0 _ p.n_in_bounds _ c.head_at-head.ensures _ c.first_turn-first.ensures _ c.read-averaged.ensures.value
    _ c.read-averaged.ensures.sheet_after _ _ c.trade-market.ensures

pub collect-rest-requires : goal.collect-rest-requires
collect-rest-requires c =
    let p = c.requires in
    asked-levy _ _ _ p.correction_value.0 _ p.n_in_bounds _ c.head_at-head.ensures _ c.first_turn-first.ensures _ c.read-averaged.ensures.value
    _ c.read-averaged.ensures.sheet_after _ _ c.trade-market.ensures _ _ c.account-accounts.ensures

pub divide-requires : goal.divide-requires
divide-requires c =
    let p = c.requires in
    asked-divide _ _ _ p.correction_value.0 _ p.n_in_bounds _ c.head_at-head.ensures _ c.first_turn-first.ensures _ c.read-averaged.ensures.value
    _ c.read-averaged.ensures.sheet_after _ _ c.trade-market.ensures _ _ c.account-accounts.ensures _ _ c.collect-rest.ensures
    _ c.shortfall-shortfall.ensures _ c.cover-left.ensures

pub overflow_cast-rows : goal.overflow_cast-rows
overflow_cast-rows c = record { fits = omega (arith, few-rows _ _ _ c.requires.correction_value.0) }

pub returns : goal.returns
returns c =
    let p = c.requires in
    record {
      value =
          top-told _ _ _ p.correction_value.0 _ p.n_in_bounds _ c.head_at-head.ensures _ c.first_turn-first.ensures _ c.read-averaged.ensures.value
          _ c.read-averaged.ensures.sheet_after _ _ c.trade-market.ensures _ _ c.account-accounts.ensures _ _ c.collect-rest.ensures
          _ c.shortfall-shortfall.ensures _ c.cover-left.ensures _ c.divide.ensures;
      sheet_after =
          lines-told _ _ _ p.correction_value.0 _ p.n_in_bounds _ c.head_at-head.ensures _ c.first_turn-first.ensures _ c.read-averaged.ensures.value
          _ c.read-averaged.ensures.sheet_after _ _ c.trade-market.ensures _ _ c.account-accounts.ensures _ _ c.collect-rest.ensures
          _ c.shortfall-shortfall.ensures _ c.cover-left.ensures _ c.divide.ensures;
    }
