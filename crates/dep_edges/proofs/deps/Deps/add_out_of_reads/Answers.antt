use Rattle.std.proofs.Common.{◌≡◌, ◌∷◌, ◌++◌, List, All, true, false, map, flat_map, refl, subst, sym}
use Rattle.hist_types.specs.Edges.{Edge}
use Rattle.key_versions.specs.Histories.{read_by}
use Rattle.dep_edges.specs.Histories.{History}
use Rattle.dep_edges.specs.OutEdges.{read_edges, each_once}
use Rattle.dep_edges.specs.Tables.{IsNumber, AreNamedOnce, txn_at, version_at}
use Rattle.dep_edges.proofs.Adding.{left_after, begins_at_error, begins_more, all_later}
use Rattle.dep_edges.proofs.deps.Deps.add_out_of_reads.Goals as goal

pub returns-in_err-add_rw-clause-err : goal.returns-in_err-add_rw-clause-err
returns-in_err-add_rw-clause-err c =
    let b = c.loop-number.invariant.begins in
    begins_at_error c.from_residual.result c.args.out.now.items c.loop-number.out.items c.add_rw.new.out.items b.0 b.1 c.in_err-add_rw.ensures.err

pub loop-number-preserved-in_ok-add_rw : goal.loop-number-preserved-in_ok-add_rw
loop-number-preserved-in_ok-add_rw c =
    let h = c.args.self.now in
    let n = c.in-Some.number.now in
    let f = read_edges h.table.keys h.txns c.args.from in
    let all : List Edge = c.args.out.now.items ++ flat_map f (each_once (read_by (txn_at h.txns c.args.place))) in
    let numbers : All (IsNumber h.table) (n ∷ c.in-Some.later.now) = subst (All (IsNumber h.table)) c.in-Some.ensures.cases.0 c.loop-number.invariant.within in
    record {
      left = left_after f h.table n c.in-Some.later.now c.loop-number.out.items c.add_rw.new.out.items all false
          (subst (λ (h : History). AreNamedOnce h.table) c.self.view_is c.reads-rest.ensures.apart)
          numbers (sym c.if-not-is_among.ensures) c.in_ok-add_rw.ensures.ok
          (subst (λ ns. c.loop-number.out.items ++ flat_map f (each_once (map (version_at h.table) ns)) ≡ all) c.in-Some.ensures.cases.0 c.loop-number.invariant.left);
      begins = begins_more c.args.out.now.items c.loop-number.out.items c.add_rw.new.out.items (f (version_at h.table n)) c.loop-number.invariant.begins c.in_ok-add_rw.ensures.ok;
      within = all_later (IsNumber h.table) n c.in-Some.later.now numbers;
    }

pub loop-number-preserved : goal.loop-number-preserved
loop-number-preserved c =
    let h = c.args.self.now in
    let n = c.in-Some.number.now in
    let f = read_edges h.table.keys h.txns c.args.from in
    let all : List Edge = c.args.out.now.items ++ flat_map f (each_once (read_by (txn_at h.txns c.args.place))) in
    let numbers : All (IsNumber h.table) (n ∷ c.in-Some.later.now) = subst (All (IsNumber h.table)) c.in-Some.ensures.cases.0 c.loop-number.invariant.within in
    record {
      left = left_after f h.table n c.in-Some.later.now c.loop-number.out.items c.loop-number.out.items all true
          (subst (λ (h : History). AreNamedOnce h.table) c.self.view_is c.reads-rest.ensures.apart)
          numbers (sym c.if-not-is_among.ensures) refl
          (subst (λ ns. c.loop-number.out.items ++ flat_map f (each_once (map (version_at h.table) ns)) ≡ all) c.in-Some.ensures.cases.0 c.loop-number.invariant.left);
      begins = c.loop-number.invariant.begins;
      within = all_later (IsNumber h.table) n c.in-Some.later.now numbers;
    }
