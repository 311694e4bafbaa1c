use Rattle.reading_laws.proofs.OneReading.{HasOne-cut, HasOne-tokens, HasOne-reading}
use Rattle.reading_laws.proofs.texts_have_one_reading.Goals as goal

pub returns-clause-cut : goal.returns-clause-cut
returns-clause-cut c text closers offset = HasOne-cut text offset closers

pub returns-clause-tokens : goal.returns-clause-tokens
returns-clause-tokens c = HasOne-tokens

pub returns-clause-reading : goal.returns-clause-reading
returns-clause-reading c = HasOne-reading
