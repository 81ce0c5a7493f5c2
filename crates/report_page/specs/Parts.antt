-- Parts that several sections have.
use Rattle.std.specs.Prelude.{ℕ, List}
use Rattle.markup.specs.declared.words.Tag.{Tag}
use Rattle.markup.specs.Forms.{Form, fresh, saying}

-- an element that holds words alone
abbrev pub said : Tag → List ℕ → Form
said tag words = saying (fresh tag) words
