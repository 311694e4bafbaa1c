use Rattle.std.proofs.Common.{◌≡◌, ◌++◌, ℕ, List, take, drop, nat_eq, sym, ap, ap₂, ◌∙◌, arith, true}
use Rattle.std.specs.Int.{w64, to_le_bytes}
use Rattle.std.proofs.Math.Seq.{take-add}
use Rattle.std.proofs.lemmas.Bool.{and_parts}
use Rattle.std.proofs.lemmas.Bool.Decides.{nat_tests}
use Rattle.std.proofs.lemmas.List.{drop-drop}
use Rattle.edn_lex.proofs.ahead.has_here.Goals as goal

same_number : (a b : ℕ) → nat_eq a b ≡ true → a ≡ b
same_number a b h = grind (arith, nat_tests)

pub loop-i-preserved : goal.loop-i-preserved
loop-i-preserved c =
    let text = c.args.text.now in
    let start = c.args.start in
    let bytes = c.args.bytes.now in
    let i = c.loop-i.i in
    let front = c.loop-i.invariant in
    let more = c.loop-i-test.true in (
      omega (arith, front.0),
      λ h.
          let parts = and_parts c.loop-i.same (nat_eq c.eight_at.result c.eight_at-in-loop-i.result) h in
          let same = same_number c.eight_at.result c.eight_at-in-loop-i.result parts.1 in
          let eight : take 8 (drop i bytes) ≡ take 8 (drop i (drop start text)) =
          sym c.eight_at-in-loop-i.ensures ∙ ap (to_le_bytes w64) (sym same) ∙ c.eight_at.ensures ∙ ap (take 8) (sym (drop-drop i start text)) in
          take-add i 8 bytes ∙ ap₂ (λ (xs ys : List ℕ). xs ++ ys) (front.1 parts.0) eight ∙ sym (take-add i 8 (drop start text)),
    )
