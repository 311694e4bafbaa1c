use Rattle.std.proofs.Common.{◌≡◌, ◌∙◌, Some, map, string_bytes, sym, ap}
use Rattle.clap.specs.Words.{found_of}
use Rattle.command_line.specs.Lines.{come_in_pairs}
use Rattle.command_line.proofs.Found.{texts_in, without_cells, paths_found, without_paths, without_pairs}
use Rattle.command_line.proofs.words.sessions_asked.Goals as goal
use Rattle.command_line.proofs.words.sessions_asked.Goals.{in_default-get_raw-via-in-Some-get_raw+else-come_in_pairs, in_default-get_raw-via-in_default-get_raw}

pub returns-in_default-clause-asked : goal.returns-in_default-clause-asked
returns-in_default-clause-asked c = λ cells keys paths asked. absurd (without_cells cells keys paths _ _ c.cells_found.ensures c.in_default.is asked)

pub returns-in_ok-copies-in-Some-get_raw-clause-only : goal.returns-in_ok-copies-in-Some-get_raw-clause-only
returns-in_ok-copies-in-Some-get_raw-clause-only c =
    let copied : map string_bytes c.in_ok-copies-in-Some-get_raw.field-0.items ≡ texts_in c.in-Some-get_raw.paths = c.in_ok-copies-in-Some-get_raw.ensures in
    record {
      cells_are = sym c.cells_found.ensures ∙ c.in-Some.is;
      keys_are = c.in_ok-keys.ensures.only;
      paths_are = paths_found (found_of c.args.serve.now) _ c.in-Some-get_raw.paths c.get_raw.ensures c.in-Some-get_raw.is ∙ ap Some (sym copied);
      pairs = ap come_in_pairs copied ∙ (sym c.come_in_pairs.ensures ∙ c.if-come_in_pairs.true);
    }

pub returns-in_default-get_raw-clause-asked : goal.returns-in_default-get_raw-clause-asked
returns-in_default-get_raw-clause-asked c = λ cells keys paths asked. absurd (elim c.in_default-get_raw.branch [
  | in_default-get_raw-via-in-Some-get_raw+else-come_in_pairs w ↦
      without_pairs cells keys paths (found_of c.args.serve.now) _ w.in-Some-get_raw.paths c.get_raw.ensures w.in-Some-get_raw.is (sym w.come_in_pairs.ensures ∙ w.if-come_in_pairs.false) asked
  | in_default-get_raw-via-in_default-get_raw w ↦ without_paths cells keys paths (found_of c.args.serve.now) _ c.get_raw.ensures w.in_default-get_raw.is asked
])
