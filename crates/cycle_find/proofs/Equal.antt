-- Levels and dependencies that the code compares.
use denote.Enum.Bare.{sameb}
use Rattle.std.proofs.Common.{◌≡◌, true, false, refl, sym}
use Rattle.std.proofs.lemmas.Bool.{false≢true}
use Rattle.hist_types.specs.contracts.types.Level.{the_type as level_type}
use Rattle.hist_types.specs.declared.types.Level.{Level}
use Rattle.hist_types.specs.declared.types.Level.TheVariants.{Plain, Process, Realtime}
use Rattle.edge_graph.specs.contracts.types.Dependencies.{the_type as dependencies_type}
use Rattle.edge_graph.specs.declared.types.Dependencies.{Dependencies}
use Rattle.edge_graph.specs.declared.types.Dependencies.TheVariants.{None, Ww, Wr, Rw, WrAndWw, All}

pub is_plain : (level : Level) → sameb level_type level Plain ≡ true → level ≡ Plain
is_plain Plain same = refl
is_plain Process same = absurd (false≢true same)
is_plain Realtime same = absurd (false≢true same)

pub is_rw : (d : Dependencies) → sameb dependencies_type d Rw ≡ true → d ≡ Rw
is_rw None same = absurd (false≢true same)
is_rw Ww same = absurd (false≢true same)
is_rw Wr same = absurd (false≢true same)
is_rw Rw same = refl
is_rw WrAndWw same = absurd (false≢true same)
is_rw All same = absurd (false≢true same)

pub is_not_rw : (d : Dependencies) → sameb dependencies_type d Rw ≡ false → d ≡ Rw → ⊥
is_not_rw None other same = cc
is_not_rw Ww other same = cc
is_not_rw Wr other same = cc
is_not_rw Rw other same = false≢true (sym other)
is_not_rw WrAndWw other same = cc
is_not_rw All other same = cc
