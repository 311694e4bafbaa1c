use Rattle.hist_types.specs.Transactions.{transactions_of}
use Rattle.clean_order.proofs.CleanReads.{clean_reads_suffice}
use Rattle.clean_order.proofs.Points.{nothing_found}
use Rattle.serial_points.proofs.SequentialPoints.{points_by_keys}
use Rattle.serial_points.proofs.kept.Points.find_nothing.Goals as goal

pub returns-clause-findings : goal.returns-clause-findings
returns-clause-findings c = λ events kept has.
    let (point, are) = points_by_keys events kept c.args.self.now has in
    nothing_found kept.keys (transactions_of events) point are

pub returns-clause-reads : goal.returns-clause-reads
returns-clause-reads c = λ events kept has. clean_reads_suffice events has.basic.rules has.basic.clean

pub returns-clause-stray : goal.returns-clause-stray
returns-clause-stray c = λ events kept has. has.basic.strays
