use Rattle.edn_ops.proofs.MopFronts.{mop_from}
use Rattle.edn_ops.proofs.flat_mops.printed_mop.Goals as goal

pub returns-clause-reads : goal.returns-clause-reads
returns-clause-reads c offset gap = c.push_mop.ensures.reads c.args.text.now offset (mop_from c.args.text.now c.args.start offset c.plain_mop.result gap c.plain_mop.ensures.gives)

pub returns-clause-within : goal.returns-clause-within
returns-clause-within c = c.push_mop.ensures.within c.args.text.now c.plain_mop.ensures.within
