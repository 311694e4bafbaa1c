use Rattle.std.proofs.Common.{List, length, Option, None, refl, ◌∙◌, ap, arith}
use Rattle.hist_types.specs.Forms.{Open}
use Rattle.hist_types.specs.Reading.{reading_from, reading_of, nothing_open}
use Rattle.hist_types.specs.Tokens.{Item}
use Rattle.hist_types.specs.declared.types.Fault.{Fault}
use Rattle.edn_lex.specs.State.{State}
use Rattle.edn_lex.proofs.Exists.{Rest-exists, Rest-unique}
use Rattle.edn_ops.specs.declared.reader.Place.{Place}
use Rattle.edn_ops.proofs.Reached.{up_to-at}
use Rattle.edn_ops.proofs.reader.OpReader.at.Goals as goal

pub returns-clause-left : goal.returns-clause-left
returns-clause-left c =
    λ entries fault reads o is tokens ending rest.
    let same = Rest-unique c.at.result tokens reads.0 ending reads.1 rest (c.at.ensures.all reads.0 reads.1 reads.2) in
    ap (λ (p : Open). reading_from p tokens ending) is.0
    ∙ ap (λ (ts : List Item). reading_of ts ending) same.0
    ∙ ap (λ (e : Option Fault). reading_of reads.0 e) same.1
    ∙ reads.3

pub returns-clause-reads : goal.returns-clause-reads
returns-clause-reads c =
    λ entries fault ends.
    let x = Rest-exists c.at.result in
    let none = ap (λ (s : State). length s.closers) c.at.ensures.start in
    (x.0, x.1, c.at.ensures.rest x.0 x.1 x.2, ends nothing_open (refl, none) x.0 x.1 x.2)

pub invariant_of-result : goal.invariant_of-result
invariant_of-result c =
    let start : Place = record { lexer = c.at.result; list = None; skipped = 0 } in
    (omega arith, up_to-at c.args.text.now c.args.offset start c.requires c.at.ensures.start refl)
