use Rattle.reading_laws.proofs.Nesting.{one_row, acts, fill_any_collection, fill_alone, hold_what_is_between}
use Rattle.reading_laws.proofs.collections_hold_what_is_between.Goals as goal

pub returns-clause-one : goal.returns-clause-one
returns-clause-one c ts fs are others also = one_row ts others fs also are

pub returns-clause-forms : goal.returns-clause-forms
returns-clause-forms c = acts

pub returns-clause-members : goal.returns-clause-members
returns-clause-members c = fill_any_collection

pub returns-clause-alone : goal.returns-clause-alone
returns-clause-alone c = fill_alone

pub returns-clause-between : goal.returns-clause-between
returns-clause-between c = hold_what_is_between
