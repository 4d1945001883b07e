-- `settle::write_behind` meets its contract.
use Rattle.settle.proofs.Answered.{behind}
use Rattle.settle.proofs.write_behind.Goals as goal

pub returns : goal.returns
returns c =
    record {
      value = c.write_lines.ensures.value;
      statement_after = behind _ _ _ c.args.form _ _ _ c.requires.n_in_bounds c.extra_of-extra.ensures.0 c.write_lines.ensures.sheet_after;
    }
