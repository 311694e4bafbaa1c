use Rattle.std.proofs.Common.{◌≡◌, take}
use Rattle.edn_lex.proofs.lexer.Lexer.copy.Given as goal

-- the collections so far
abbrev pub invariant-loop-collection : goal.invariant-loop-collection
invariant-loop-collection l = l.collections.items ≡ take l.collection-index l.collection-items
