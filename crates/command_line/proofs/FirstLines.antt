-- What comes before the first line feed.
use Rattle.std.proofs.Common.{◌≡◌, ◌∙◌, ℕ, suc, ◌+◌, List, [], ◌∷◌, ◌++◌, Bool, true, false, ◌&&◌, cond, codes, take, refl, ap, arith}
use Rattle.std.proofs.lemmas.List.{append_assoc}
use Rattle.std.specs.List.{list_all, prefix_len}
use Rattle.command_line.specs.Lines.{first_line, IsOneLine, IsComplaint}

-- each element at the front of a list passes a test, as far as they do
front_passes : (q : ℕ → Bool) (xs : List ℕ) → list_all q (take (prefix_len q xs) xs) ≡ true
front_passes q [] = refl
front_passes q (x ∷ xs) = by_first (q x) refl (front_passes q xs)
  where
    by_first : (b : Bool) → q x ≡ b → list_all q (take (prefix_len q xs) xs) ≡ true → list_all q (take (cond b (1 + prefix_len q xs) 0) (x ∷ xs)) ≡ true
    by_first true e rest =
        let on : 1 + prefix_len q xs ≡ suc (prefix_len q xs) = omega arith in
        ap (λ n. list_all q (take n (x ∷ xs))) on ∙ (ap (λ b. b && list_all q (take (prefix_len q xs) xs)) e ∙ rest)
    by_first false e rest = refl

-- a first line is one line
pub first_line_is_one : (text : List ℕ) → IsOneLine (first_line text)
first_line_is_one text = front_passes _ text

-- a first line with its line feed, and the closing line
pub complaint_of : (message closing text : List ℕ) → text ≡ (first_line message ++ codes "\n") ++ closing → IsComplaint closing text
complaint_of message closing text is =
    record {
      message = first_line message;
      one_line = first_line_is_one message;
      text_is = is ∙ append_assoc (first_line message) (codes "\n") closing;
    }
