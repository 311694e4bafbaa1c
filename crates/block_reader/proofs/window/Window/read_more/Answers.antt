use Rattle.std.proofs.Common.{◌≡◌, ◌∙◌, ℕ, ◌+◌, ◌-◌, ◌≤◌, List, ◌++◌, length, take, slice_range, sym, ap, arith, rules}
use Rattle.std.proofs.lemmas.Result.{err_from_is_err_and}
use Rattle.block_reader.specs.Windows.{Held}
use Rattle.block_reader.proofs.Windows.{grown, kept, written}
use Rattle.block_reader.proofs.window.Window.read_more.Goals as goal

pub returns-in_err-count-clause-kept : goal.returns-in_err-count-clause-kept
returns-in_err-count-clause-kept g c =
    let w = c.with_room_behind-start in
    let start = w.result.0 in
    let end = w.result.1 in
    let bytes : List ℕ = c.deref_mut.result.now in
    let same : bytes ≡ w.new.bytes.items = c.deref_mut.ensures.value in
    let size : length bytes ≡ w.new.bytes.len = rw same (omega arith) in
    let within : end ≤ length bytes = omega (arith, size, w.ensures.room) in
    let p = err_from_is_err_and c.from_residual.result c.from_residual.ensures.1 in
    rw p.1 (ap (λ (xs : List ℕ). slice_range xs start end)
    (written bytes c.read.new.room _ end w.new.bytes.len within (search rules) (sym size))
    ∙ kept bytes c.read.new.room start end (length bytes - end) w.ensures.ordered within
    ∙ ap (λ (xs : List ℕ). slice_range xs start end) same
    ∙ w.ensures.kept
    ∙ ap (λ (h : Held). h.bytes) c.self.view_is)

pub returns-clause-given : goal.returns-clause-given
returns-clause-given g c =
    let w = c.with_room_behind-start in
    let start = w.result.0 in
    let end = w.result.1 in
    let bytes : List ℕ = c.deref_mut.result.now in
    let same : bytes ≡ w.new.bytes.items = c.deref_mut.ensures.value in
    let size : length bytes ≡ w.new.bytes.len = rw same (omega arith) in
    let within : end ≤ length bytes = omega (arith, size, w.ensures.room) in
    let n = c.in_ok-count.count in
    let bound = c.in_ok-count.ensures.within in
    let more = take n c.read.new.room in (
      more,
      sym bound.1,
      ap (λ (xs : List ℕ). slice_range xs start (end + n))
          (written bytes c.read.new.room _ end w.new.bytes.len within (search rules) (sym size))
          ∙ grown bytes c.read.new.room start end (length bytes - end) n w.ensures.ordered within bound.0
          ∙ ap (λ (xs : List ℕ). slice_range xs start end ++ more) same
          ∙ ap (λ (xs : List ℕ). xs ++ more) (w.ensures.kept ∙ ap (λ (h : Held). h.bytes) c.self.view_is),
      c.in_ok-count.ensures.bytes.0,
    )
