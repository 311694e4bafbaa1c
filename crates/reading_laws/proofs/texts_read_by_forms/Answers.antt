use Rattle.reading_laws.proofs.FormEntries.{read_forms, forms_read}
use Rattle.reading_laws.proofs.MapsOfForms.{maps_of_forms}
use Rattle.reading_laws.proofs.texts_read_by_forms.Goals as goal

pub returns-clause-faultless : goal.returns-clause-faultless
returns-clause-faultless c text entries = (read_forms text entries, forms_read text entries)

pub returns-clause-operations : goal.returns-clause-operations
returns-clause-operations c = maps_of_forms
