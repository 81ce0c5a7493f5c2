-- No part of the document is a float, so it has one text.
use Rattle.std.proofs.Common.{ℕ, ◌≡◌, List, [], ◌∷◌, length, map, get_or, Option, Some, None, false, refl}
use Rattle.std.specs.List.{range_with_len}
use Rattle.hoist_base.specs.LineData.{LineData, stage, move_at, move_count}
use Rattle.line_model.specs.Timetable.{Timetable}
use Rattle.answer_text.specs.declared.answer.Answer.{Answer}
use Rattle.serde_json.specs.Data.{Data}
use Rattle.serde_json.specs.View.{items_of}
use Rattle.serde_json.specs.Written.{has_float, items_have_float}
use Rattle.report_json.specs.Document.{count, count_or_null, listed, tank_value, stage_value, line_value, stay_value, carrier_value, move_value, hoist_value, document}

items_plain : (f : ℕ → Data) (xs : List ℕ) → ((i : ℕ) → has_float (f i) ≡ false)
    → items_have_float (items_of (map f xs)) ≡ false
items_plain f [] each = refl
items_plain f (x ∷ xs) each = rw (each x) (items_plain f xs each)

listed_plain : (f : ℕ → Data) (n : ℕ) → ((i : ℕ) → has_float (f i) ≡ false) → has_float (listed f n) ≡ false
listed_plain f n each = items_plain f (range_with_len 0 n) each

maybe_plain : (o : Option ℕ) → has_float (count_or_null o) ≡ false
maybe_plain None = refl
maybe_plain (Some n) = refl

tank_plain : (l : LineData) (i : ℕ) → has_float (tank_value l i) ≡ false
unfolding tank_value
tank_plain l i = refl

stage_plain : (l : LineData) (k : ℕ) → has_float (stage_value l k) ≡ false
unfolding stage_value
stage_plain l k =
    rw (maybe_plain (stage l k).max, listed_plain (λ j. count (get_or (stage l k).tanks j 0)) (length (stage l k).tanks) (λ j. refl)) refl

line_plain : (l : LineData) → has_float (line_value l) ≡ false
unfolding line_value
line_plain l = rw (listed_plain (stage_value l) (length l.stages) (stage_plain l), listed_plain (tank_value l) (length l.tanks) (tank_plain l)) refl

stay_plain : (l : LineData) (p : Timetable) (c k : ℕ) → has_float (stay_value l p c k) ≡ false
unfolding stay_value
stay_plain l p c k = rw (maybe_plain (stage l k).max) refl

carrier_plain : (l : LineData) (p : Timetable) (c : ℕ) → has_float (carrier_value l p c) ≡ false
unfolding carrier_value
carrier_plain l p c = rw (listed_plain (stay_value l p c) (length l.stages) (stay_plain l p c)) refl

move_plain : (l : LineData) (p : Timetable) (c k : ℕ) → has_float (move_value l p c k) ≡ false
unfolding move_value
move_plain l p c k = refl

hoist_plain : (p : Timetable) (h : ℕ) → has_float (hoist_value p h) ≡ false
unfolding hoist_value
hoist_plain p h = rw (listed_plain (λ t. count (p.path h t)) p.period (λ t. refl)) refl

pub document_plain : (l : LineData) (a : Answer) (p : Timetable) → has_float (document l a p) ≡ false
unfolding document
document_plain l a p =
    rw (
      listed_plain (carrier_value l p) l.degree (carrier_plain l p),
      listed_plain (hoist_value p) l.hoists (hoist_plain p),
      line_plain l,
      listed_plain (λ i. move_value l p (move_at l i).carrier (move_at l i).step) (move_count l)
          (λ i. move_plain l p (move_at l i).carrier (move_at l i).step),
    ) refl
