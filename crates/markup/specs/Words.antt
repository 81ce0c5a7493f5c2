-- The names of elements and of attributes.
use Rattle.std.specs.Prelude.{ℕ, List, codes, Bool, true, false}
use Rattle.markup.specs.declared.words.Tag.{Tag}
use Rattle.markup.specs.declared.words.Tag.TheVariants as tags
use Rattle.markup.specs.declared.words.Key.{Key}
use Rattle.markup.specs.declared.words.Key.TheVariants as keys

abbrev pub tag_word : Tag → List ℕ
tag_word tags.Html = codes "html"
tag_word tags.Head = codes "head"
tag_word tags.Meta = codes "meta"
tag_word tags.Title = codes "title"
tag_word tags.Style = codes "style"
tag_word tags.Body = codes "body"
tag_word tags.Heading = codes "h1"
tag_word tags.Subheading = codes "h2"
tag_word tags.Paragraph = codes "p"
tag_word tags.Division = codes "div"
tag_word tags.Span = codes "span"
tag_word tags.Table = codes "table"
tag_word tags.Row = codes "tr"
tag_word tags.HeadCell = codes "th"
tag_word tags.Cell = codes "td"
tag_word tags.List = codes "ol"
tag_word tags.Item = codes "li"
tag_word tags.Svg = codes "svg"
tag_word tags.Group = codes "g"
tag_word tags.Line = codes "line"
tag_word tags.Polyline = codes "polyline"
tag_word tags.Text = codes "text"

-- an element that never holds anything has no end
abbrev pub is_void : Tag → Bool
is_void tags.Meta = true
is_void _ = false

abbrev pub key_word : Key → List ℕ
key_word keys.Charset = codes "charset"
key_word keys.Class = codes "class"
key_word keys.Height = codes "height"
key_word keys.Lang = codes "lang"
key_word keys.Points = codes "points"
key_word keys.Role = codes "role"
key_word keys.Scaling = codes "preserveAspectRatio"
key_word keys.ViewBox = codes "viewBox"
key_word keys.Width = codes "width"
key_word keys.X = codes "x"
key_word keys.X1 = codes "x1"
key_word keys.X2 = codes "x2"
key_word keys.Y = codes "y"
key_word keys.Y1 = codes "y1"
key_word keys.Y2 = codes "y2"
