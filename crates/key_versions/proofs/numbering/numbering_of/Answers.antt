use Rattle.std.proofs.Common.{rules, ◌∙◌, ℕ, List, Option, length, sym, subst}
use Rattle.hist_types.specs.Journal.{Write}
use Rattle.key_versions.specs.Given.{AreGiven, HaveNumbers}
use Rattle.key_versions.specs.Nils.{AreNilsIn, AreOfKeysBelow, AreWithNils, KeepPlaces}
use Rattle.key_versions.specs.Numbering.{versions_in}
use Rattle.key_versions.specs.declared.write_numbers.WriteNumbers.TheVariants.{Consecutive}
use Rattle.key_versions.proofs.Journaled.{keys_below, none_count, nils_none, given_numbering, named_by_writes, first_numbers}
use Rattle.key_versions.proofs.Numbered.{numbers, numbered_versions}
use Rattle.key_versions.proofs.numbering.numbering_of.Goals as goal

pub add_nils-requires-clause-keys : goal.add_nils-requires-clause-keys
add_nils-requires-clause-keys c =
    let t = c.into_tables-keys.result in
    let nils = c.in_ok-nils.nils.items in
    subst (AreOfKeysBelow (length nils)) (sym c.in_ok-reserve.ensures.items)
    (keys_below (length t.keys.items) (length t.values.items) (length nils) t.pairs.items c.into_tables-keys.ensures.within.within
    (none_count c.len.result nils (c.in_ok-nils.ensures.items_if_clones_equal (λ y is. search rules)) ∙ c.len.ensures))

pub add_nils-requires-clause-nils : goal.add_nils-requires-clause-nils
add_nils-requires-clause-nils c =
    let t = c.into_tables-keys.result in
    let nils = c.in_ok-nils.nils.items in
    subst (λ (ps : List (ℕ × Option ℕ)). AreNilsIn ps nils) (sym c.in_ok-reserve.ensures.items)
    (nils_none (length t.keys.items) (length t.values.items) c.len.result t.pairs.items nils c.into_tables-keys.ensures.within.within
    (c.in_ok-nils.ensures.items_if_clones_equal (λ y is. search rules)))

pub invariant_of-result : goal.invariant_of-result
invariant_of-result c =
    let t = c.into_tables-keys.result in
    let added = c.in_ok-add_nils.ensures in
    let pairs = c.add_nils.new.pairs.items in
    let are : AreWithNils t.pairs.items pairs = subst (λ (ps : List (ℕ × Option ℕ)). AreWithNils ps pairs) c.in_ok-reserve.ensures.items added.pairs in
    given_numbering t.keys.items t.values.items t.pairs.items pairs c.add_nils.new.nils.items c.into_tables-keys.ensures.within added.numbered are added.nils
    (added.len ∙ none_count c.len.result c.in_ok-nils.nils.items (c.in_ok-nils.ensures.items_if_clones_equal (λ y is. search rules)) ∙ c.len.ensures)

pub returns-clause-given : goal.returns-clause-given
returns-clause-given c =
    let t = c.into_tables-keys.result in
    let added = c.in_ok-add_nils.ensures in
    let written = c.into_tables-keys.ensures in
    let pairs = c.add_nils.new.pairs.items in
    let nils = c.add_nils.new.nils.items in
    let are : AreWithNils t.pairs.items pairs = subst (λ (ps : List (ℕ × Option ℕ)). AreWithNils ps pairs) c.in_ok-reserve.ensures.items added.pairs in
    subst (λ (ws : List Write). AreGiven ws (versions_in t.keys.items t.values.items pairs)) written.writes (record {
      distinct = numbered_versions (numbers t.keys.items t.values.items pairs nils)
          (given_numbering t.keys.items t.values.items t.pairs.items pairs nils written.within added.numbered are added.nils
          (added.len ∙ none_count c.len.result c.in_ok-nils.nils.items (c.in_ok-nils.ensures.items_if_clones_equal (λ y is. search rules)) ∙ c.len.ensures));
      named = named_by_writes t.keys.items t.values.items t.pairs.items pairs written.within.within are;
    })

pub returns-clause-numbers : goal.returns-clause-numbers
returns-clause-numbers c =
    let t = c.into_tables-keys.result in
    let added = c.in_ok-add_nils.ensures in
    let written = c.into_tables-keys.ensures in
    let pairs = c.add_nils.new.pairs.items in
    let places : KeepPlaces t.pairs.items pairs = subst (λ (ps : List (ℕ × Option ℕ)). KeepPlaces ps pairs) c.in_ok-reserve.ensures.items added.places in
    subst (λ (ws : List Write). HaveNumbers (Consecutive 0) (versions_in t.keys.items t.values.items pairs) ws) written.writes
    (first_numbers t.keys.items t.values.items t.pairs.items pairs written.within.within places)
