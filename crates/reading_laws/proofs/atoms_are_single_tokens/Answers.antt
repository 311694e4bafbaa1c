use Rattle.reading_laws.proofs.SingleTokens.{token_alone, mops_alone_in, alone}
use Rattle.reading_laws.proofs.atoms_are_single_tokens.Goals as goal

pub returns-clause-tokens : goal.returns-clause-tokens
returns-clause-tokens c text t (tokens, ending, value, reads, has, spells) =
    token_alone text tokens ending t value reads has spells

pub returns-clause-mops : goal.returns-clause-mops
returns-clause-mops c text o (entries, fault, reads, has) = mops_alone_in text entries fault o reads has

pub returns-clause-bytes : goal.returns-clause-bytes
returns-clause-bytes c kind bytes (is_token, begins, sound) = alone kind bytes is_token begins sound
