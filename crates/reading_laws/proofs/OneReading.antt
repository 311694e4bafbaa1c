-- Each text has one reading.
use Rattle.std.proofs.Common.{◌≡◌, ℕ, List, Option, refl, sym, ◌∙◌, ap}
use Rattle.hist_types.specs.Entries.{Entry}
use Rattle.reading_laws.specs.Readings.{HasOneReading}
use Rattle.hist_types.specs.Reading.{Reading, reading_of, Reads}
use Rattle.hist_types.specs.Tokens.{Item, IsCut, HasTokens}
use Rattle.hist_types.specs.declared.types.Fault.{Fault}
use Rattle.reading_laws.proofs.EachCut.{each_cut, each_row_of_tokens}
use Rattle.reading_laws.proofs.OneCut.{one_cut, one_row_of_tokens}

pub same_reading :
    (text : List ℕ) (entries others : List Entry) (fault other : Option Fault)
    → Reads text entries fault
    → Reads text others other
    → (entries ≡ others) × (fault ≡ other)
same_reading text entries others fault other first second =
    let same = one_row_of_tokens text first.0 second.0 first.1 second.1 first.2 second.2 in
    let read : record { entries = entries; fault = fault } ≡ record { entries = others; fault = other } =
    sym first.3 ∙ (ap (λ (ts : List Item). reading_of ts first.1) same.0
    ∙ (ap (reading_of second.0) same.1 ∙ second.3)) in
    (ap (λ (r : Reading). r.entries) read, ap (λ (r : Reading). r.fault) read)

pub HasOne-cut : (text : List ℕ) (offset : ℕ) (closers : List ℕ) → HasOneReading (IsCut text offset closers)
HasOne-cut text offset closers =
    (each_cut text offset closers, λ items others ending other. one_cut text offset closers items others ending other)

pub HasOne-tokens : (text : List ℕ) → HasOneReading (HasTokens text)
HasOne-tokens text =
    (each_row_of_tokens text, λ tokens others ending other. one_row_of_tokens text tokens others ending other)

pub HasOne-reading : (text : List ℕ) → HasOneReading (Reads text)
HasOne-reading text =
    let row = each_row_of_tokens text in
    let reading = reading_of row.0 row.1 in (
      (
        reading.entries,
        reading.fault,
        (row.0, row.1, row.2, refl),
      ),
      λ entries others fault other. same_reading text entries others fault other,
    )
