-- `fill_entries::store_table` meets its contract. The invariant: the entries of the rows before this one are written.
use Rattle.fill_entries.proofs.EntryParts.{row_more}
use Rattle.fill_entries.proofs.store_table.Goals as goal

pub loop-row-preserved : goal.loop-row-preserved
loop-row-preserved c = row_more _ c.args.work.now _ _ _ _ c.loop-row.invariant c.store_row.ensures
