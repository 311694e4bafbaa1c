-- Versions that have numbers before transactions are taken.
use Rattle.std.proofs.Common.{◌≡◌, List, [], ◌∷◌, ◌-◌, arith, length, map, replicate, Bool, true, false, refl, sym, ◌∙◌, ap, subst}
use Rattle.std.specs.Prelude.{◌||◌, Some}
use Rattle.hist_types.specs.Transactions.{Transaction, Version, version_eq, has_version}
use Rattle.hist_types.specs.declared.types.KeyOrder.TheVariants.{Basic}
use Rattle.atom_index.specs.Numbers.{AreNumbered}
use Rattle.key_versions.specs.Given.{AreNamed, IsTableBeside}
use Rattle.key_versions.specs.Histories.{is_named, writer_of, readers_of, followers_of}
use Rattle.key_versions.specs.Rows.{Known, unknown, grown}
use Rattle.key_versions.specs.Tables.{Table, IsTableOf, followers_at}
use Rattle.key_versions.specs.Views.{table_by}

-- ---- a table before any transaction

each_unknown : {B : Type 0} (f : Known → B) (g : Version → B) (vs : List Version) → ((v : Version) → f unknown ≡ g v) → map f (replicate (length vs) unknown) ≡ map g vs
each_unknown f g [] same = refl
each_unknown {B} f g (v ∷ vs) same = ap (λ (y : B). y ∷ map f (replicate (length vs) unknown)) (same v) ∙ ap (λ (ys : List B). g v ∷ ys) (each_unknown f g vs same)

map_both : {A B C : Type 0} (g : B → C) (f : A → B) (xs : List A) → map g (map f xs) ≡ map (λ x. g (f x)) xs
map_both g f [] = refl
map_both {A} {B} {C} g f (x ∷ xs) = ap (λ (ys : List C). g (f x) ∷ ys) (map_both g f xs)

or_false : (b : Bool) → b ≡ (b || false)
or_false true = refl
or_false false = refl

unknown_alone : (vs : List Version) → AreNumbered version_eq vs → IsTableBeside vs [] (table_by vs (replicate (length vs) unknown) [])
unknown_alone vs numbered = record {
  distinct = numbered;
  named = λ v. or_false (has_version vs v);
  writers = each_unknown (λ (r : Known). r.writer) (writer_of []) vs (λ v. refl);
  readers = each_unknown (λ (r : Known). r.readers) (readers_of []) vs (λ v. refl);
  followers =
      map_both (followers_at vs) (λ (r : Known). r.followers) (replicate (length vs) unknown)
      ∙ each_unknown (λ (r : Known). followers_at vs r.followers) (λ v. map (λ p. (p.0, Some p.1)) (followers_of Basic [] v)) vs (λ v. refl);
  reads = refl;
  installs = refl;
}

pub begun : (vs : List Version) (rows : List Known) → AreNumbered version_eq vs → rows ≡ grown (length vs) [] → IsTableBeside vs [] (table_by vs rows [])
begun vs rows numbered grew =
    let none : length vs - length {A = Known} [] ≡ length vs = omega arith in
    subst (λ (xs : List Known). IsTableBeside vs [] (table_by vs xs [])) (sym (grew ∙ ap (λ n. replicate n unknown) none)) (unknown_alone vs numbered)

-- ---- a table of all transactions

named_alone : (a b : Bool) → (a ≡ true → b ≡ true) → (a || b) ≡ b
named_alone true b h = sym (h refl)
named_alone false b h = refl

-- what has a number from the start is named
pub all_named : (given : List Version) (ts : List Transaction) (table : Table) → IsTableBeside given ts table → AreNamed ts given → IsTableOf Basic ts table
all_named given ts table is named = record {
  distinct = is.distinct;
  named = λ v. is.named v ∙ named_alone (has_version given v) (is_named ts v) (named v);
  writers = is.writers;
  readers = is.readers;
  followers = is.followers;
  reads = is.reads;
  installs = is.installs;
}
