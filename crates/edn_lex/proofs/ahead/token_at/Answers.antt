use Rattle.std.proofs.Common.{◌≡◌, ℕ, ◌-◌, List, length, drop, take, false, Option, Some, None, sym, ◌∙◌}
use Rattle.std.specs.Option.{is_some}
use Rattle.std.specs.Str.Lossy.{utf8_valid_len}
use Rattle.std.proofs.lemmas.List.{take_rest}
use Rattle.edn_lex.specs.Ends.{StopsBeingUtf8}
use Rattle.edn_lex.specs.Pieces.{kind_of_piece}
use Rattle.edn_lex.proofs.LookAhead.{token_found}
use Rattle.edn_lex.proofs.ahead.token_at.Goals as goal

all_utf8 : (bytes : List ℕ) (o : Option ℕ) → is_some o ≡ false → StopsBeingUtf8 bytes o → utf8_valid_len bytes ≡ length bytes
all_utf8 bytes None e h = h
all_utf8 bytes (Some n) e h = cc

pub returns-clause-gives : goal.returns-clause-gives
returns-clause-gives c =
    let text = c.args.text.now in
    let start = c.args.start in
    let xs = take (length text - start) (drop start text) in
    let found = c.in_ok-piece in
    let valid = all_utf8 (take found.piece.len xs) c.utf8_end.result (sym c.is_some.ensures ∙ c.if-is_some.false) c.utf8_end.ensures in
    token_found c.token.result text start xs (kind_of_piece found.piece.kind) found.piece.len (take_rest text start) found.ensures.some found.ensures.fits found.ensures.front valid c.token.ensures
