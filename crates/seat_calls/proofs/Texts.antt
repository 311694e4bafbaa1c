-- The texts of an operation's keys and values, one after the other.
use Rattle.std.proofs.Common.{List, [], ◌∷◌, ◌++◌}
use Rattle.hist_types.specs.Operations.{Mop}
use Rattle.edn_ops.specs.SourceTexts.{AreMopTexts, IsMopText}
use Rattle.edn_ops.specs.declared.write.MopText.{MopText}

pub one_more_text :
    (texts : List MopText) (mops : List Mop) (text : MopText) (mop : Mop)
    → AreMopTexts texts mops
    → IsMopText text mop
    → AreMopTexts (texts ++ text ∷ []) (mops ++ mop ∷ [])
one_more_text [] [] text mop are is = (is, tt)
one_more_text [] (m ∷ mops) text mop are is = absurd are
one_more_text (t ∷ texts) [] text mop are is = absurd are
one_more_text (t ∷ texts) (m ∷ mops) text mop are is =
    (are.0, one_more_text texts mops text mop are.1 is)
