-- What kinds of tokens and tokens stand for.
use Rattle.std.specs.Prelude.{ℕ, List, Bool, nat_lt, slice_range}
use Rattle.hist_types.specs.Tokens.{ItemKind, Opener, Closer, Str, Char, Drop, Tag, Nil, True, False, Int, Keyword, Symbol, Other, Item}
use Rattle.edn_lex.specs.declared.types.TokenKind.{TokenKind}
use Rattle.edn_lex.specs.declared.types.TokenKind.TheVariants as kinds
use Rattle.edn_lex.specs.declared.types.Token.{Token}

-- the kind of item that a kind of token is
abbrev pub kind_of : TokenKind → ItemKind
kind_of kinds.Open = Opener
kind_of kinds.Close = Closer
kind_of kinds.Str = Str
kind_of kinds.Char = Char
kind_of kinds.Drop = Drop
kind_of kinds.Tag = Tag
kind_of kinds.Nil = Nil
kind_of kinds.True = True
kind_of kinds.False = False
kind_of kinds.Int = Int
kind_of kinds.Keyword = Keyword
kind_of kinds.Symbol = Symbol
kind_of kinds.Other = Other

-- the item of a text that a token is
abbrev pub item_of : List ℕ → Token → Item
item_of text token =
    record {
      kind = kind_of token.kind;
      start = token.start;
      bytes = slice_range text token.start token.end;
    }

-- a byte of ASCII
abbrev pub is_low : ℕ → Bool
is_low b = nat_lt b 128
