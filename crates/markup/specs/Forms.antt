-- Elements, and the trees that their texts are of.
use Rattle.std.specs.Prelude.{◌≡◌, ℕ, List, [], ◌++◌, codes, Bool, true, false, flat_map}
use Rattle.markup.specs.declared.words.Tag.{Tag}
use Rattle.markup.specs.declared.words.Key.{Key}
use Rattle.markup.specs.Words.{tag_word, key_word, is_void}
use Rattle.markup.specs.Escape.{escaped}

-- what is seen of an element: its name, the text of its attributes, and the text of what it holds
pub record Form : Type 0 where
  pub tag : Tag
  pub attributes : List ℕ
  pub inside : List ℕ

abbrev pub form : Tag → List ℕ → List ℕ → Form
form tag attributes inside = record { tag = tag; attributes = attributes; inside = inside }

abbrev pub attribute_text : Key → List ℕ → List ℕ
attribute_text key value = codes " " ++ (key_word key ++ (codes "=\"" ++ (escaped value ++ codes "\"")))

-- the mark with which an element begins
abbrev pub start_text : Tag → List ℕ → List ℕ
start_text tag attributes = codes "<" ++ (tag_word tag ++ (attributes ++ codes ">"))

-- what comes behind it: what the element holds and the mark with which it ends, or nothing
abbrev pub rest_text : Bool → Tag → List ℕ → List ℕ
rest_text true tag inside = codes "\n"
rest_text false tag inside = inside ++ (codes "</" ++ (tag_word tag ++ codes ">\n"))

abbrev pub form_text : Form → List ℕ
form_text f = start_text f.tag f.attributes ++ rest_text (is_void f.tag) f.tag f.inside

-- an element that has no attribute and holds nothing
unfoldable pub fresh : Tag → Form
fresh tag = form tag [] []

-- one with an attribute more, with words behind what it holds, with another element there
unfoldable pub having : Form → Key → List ℕ → Form
having f key value = record f { attributes = f.attributes ++ attribute_text key value }

unfoldable pub saying : Form → List ℕ → Form
saying f w = record f { inside = f.inside ++ escaped w }

unfoldable pub holding : Form → Form → Form
holding f child = record f { inside = f.inside ++ form_text child }

-- one with other elements there, in their order
unfoldable pub holding_all : Form → List Form → Form
holding_all f children = record f { inside = f.inside ++ flat_map form_text children }

-- the text of an element by its parts
abbrev pub element_text : Tag → List ℕ → List ℕ → List ℕ
element_text tag attributes inside = form_text (form tag attributes inside)

-- what an element holds: nothing, words and then more, or an element and then more
pub data Forest : Type 0 where
  nothing : Forest
  words : List ℕ → Forest → Forest
  element : Tag → List (Key × List ℕ) → Forest → Forest → Forest

abbrev pub attributes_text : List (Key × List ℕ) → List ℕ
attributes_text list = flat_map (λ a. attribute_text a.0 a.1) list

abbrev pub forest_text : Forest → List ℕ
forest_text nothing = []
forest_text (words w rest) = escaped w ++ forest_text rest
forest_text (element tag list inside rest) = element_text tag (attributes_text list) (forest_text inside) ++ forest_text rest

-- the text is that of some attributes, of some words and elements
abbrev pub AreAttributes : List ℕ → Type 0
AreAttributes text = (list : List (Key × List ℕ)) × (text ≡ attributes_text list)

abbrev pub IsInside : List ℕ → Type 0
IsInside text = (forest : Forest) × (text ≡ forest_text forest)

-- a document: the line that says that it is HTML, and one element
unfoldable pub document_text : Form → List ℕ
document_text f = codes "<!DOCTYPE html>\n" ++ form_text f

-- the text is that of some element, with some attributes, that holds some words and elements
abbrev pub IsDocument : List ℕ → Type 0
IsDocument text =
    (tag : Tag) × (list : List (Key × List ℕ)) × (inside : Forest)
    × (text ≡ document_text (form tag (attributes_text list) (forest_text inside)))
