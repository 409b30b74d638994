-- The trees that tokens hold, by what they begin with.
use Rattle.std.proofs.Common.{◌≡◌, ℕ, suc, ◌≤◌, List, [], ◌∷◌, ◌++◌, Bool, true, Option, Some, None, Result, Ok, Err, refl, ap, sym, ◌∙◌, append_assoc, append-nil, arith}
use Rattle.std.specs.Prelude.{IfSome, IfOk, ℤ, option_map}
use Rattle.json.specs.Token.{Token}
use Rattle.json.specs.Json as text
use Rattle.json.specs.Tree.{depth, items_depth}
use Rattle.json.specs.Find.{BeginsWith, InItems, NextItem, as_number, as_str, as_bool, is_null}
use Rattle.serde_json.specs.Data.{Data, null, boolean, number, string, array, Items, no_items, item}
use Rattle.serde_json.specs.Find.{of_integer}
use Rattle.serde_json.specs.Read.{number_of, of_json, of_items}
use Rattle.sab_block.specs.Operand.{IsSafeInteger}
use Rattle.sab_reader.specs.Script.Numbers.{SpellsWhole}
use Rattle.sab_reader.specs.Script.Reading.{SpellsEach}
use Rattle.sab_reader.specs.Script.Plain.{HoldsTree, HoldsItems, HoldsNext}

pub if_some : {X : Type 0} {P Q : X → Type 0} (o : Option X) → ((x : X) → P x → Q x) → IfSome o P → IfSome o Q
if_some None f h = h
if_some (Some x) f h = f x h

pub if_ok : {X E : Type 0} {P Q : X → Type 0} (r : Result X E) → ((x : X) → P x → Q x) → IfOk r P → IfOk r Q
if_ok (Ok x) f h = f x h
if_ok (Err e) f h = h

pub holds_by : {P Q : Data → Type 0} {n : ℕ} (ts : List Token) → ((d : Data) → P d → Q d) → HoldsTree n P ts → HoldsTree n Q ts
holds_by ts f h = λ j begins. let r = h j begins in (r.0, r.1, f r.0 r.2)

pub items_by : {P Q : Items → Type 0} {n : ℕ} (ts : List Token) → ((ds : Items) → P ds → Q ds) → HoldsItems n P ts
    → HoldsItems n Q ts
items_by ts f h = λ js begins. let r = h js begins in (r.0, r.1, f r.0 r.2)

-- what nests so deep at most nests no deeper

pub holds_deeper : {P : Data → Type 0} (m n : ℕ) (ts : List Token) → m ≤ n → HoldsTree m P ts → HoldsTree n P ts
holds_deeper m n ts le h = λ j begins. let r = h j begins in (r.0, (r.1.0, omega (arith, le, r.1.1)), r.2)

pub items_deeper : {P : Items → Type 0} (m n : ℕ) (ts : List Token) → m ≤ n → HoldsItems m P ts → HoldsItems n P ts
items_deeper m n ts le h = λ js begins. let r = h js begins in (r.0, (r.1.0, omega (arith, le, r.1.1)), r.2)

pub shallow : {j k : text.Json} {n : ℕ} → j ≡ k → depth k ≤ n → depth j ≤ n
shallow e le = rw e le

pub items_shallow : {js ks : text.Items} {n : ℕ} → js ≡ ks → items_depth ks ≤ n → items_depth js ≤ n
items_shallow e le = rw e le

-- values of one kind

number_is : (j : text.Json) (s : List ℕ) → as_number j ≡ Some s → j ≡ text.number s
number_is text.null s e = cc
number_is (text.boolean b) s e = cc
number_is (text.number t) s e = let same : t ≡ s = cc in ap text.number same
number_is (text.string t) s e = cc
number_is (text.array js) s e = cc
number_is (text.object ms) s e = cc

pub string_is : (j : text.Json) (s : List ℕ) → as_str j ≡ Some s → j ≡ text.string s
string_is text.null s e = cc
string_is (text.boolean b) s e = cc
string_is (text.number t) s e = cc
string_is (text.string t) s e = let same : t ≡ s = cc in ap text.string same
string_is (text.array js) s e = cc
string_is (text.object ms) s e = cc

pub boolean_is : (j : text.Json) (b : Bool) → as_bool j ≡ Some b → j ≡ text.boolean b
boolean_is text.null b e = cc
boolean_is (text.boolean c) b e = let same : c ≡ b = cc in ap text.boolean same
boolean_is (text.number t) b e = cc
boolean_is (text.string t) b e = cc
boolean_is (text.array js) b e = cc
boolean_is (text.object ms) b e = cc

-- a number that is whole
pub holds_whole : (ts : List Token) (s : List ℕ) (z : ℤ) → ((j : text.Json) → BeginsWith ts j → Some s ≡ as_number j)
    → number_of s ≡ Some (of_integer z) → IsSafeInteger z → HoldsTree 0 (λ d. SpellsWhole d z) ts
holds_whole ts s z is read safe = λ j begins.
    let whole = number_is j s (sym (is j begins)) in
    (number (of_integer z), (ap of_json whole ∙ rw read refl, shallow whole (omega arith)), (refl, safe))

pub holds_string : (ts : List Token) (s : List ℕ) → ((j : text.Json) → BeginsWith ts j → Some s ≡ as_str j)
    → HoldsTree 0 (λ d. d ≡ string s) ts
holds_string ts s is = λ j begins.
    let whole = string_is j s (sym (is j begins)) in (string s, (ap of_json whole, shallow whole (omega arith)), refl)

pub holds_boolean : (ts : List Token) (b : Bool) → ((j : text.Json) → BeginsWith ts j → Some b ≡ as_bool j)
    → HoldsTree 0 (λ d. d ≡ boolean b) ts
holds_boolean ts b is = λ j begins.
    let whole = boolean_is j b (sym (is j begins)) in (boolean b, (ap of_json whole, shallow whole (omega arith)), refl)

null_is : (j : text.Json) → is_null j ≡ true → j ≡ text.null
null_is text.null e = refl
null_is (text.boolean b) e = cc
null_is (text.number t) e = cc
null_is (text.string t) e = cc
null_is (text.array js) e = cc
null_is (text.object ms) e = cc

pub holds_null : (ts : List Token) → ((j : text.Json) → BeginsWith ts j → true ≡ is_null j) → HoldsTree 0 (λ d. d ≡ null) ts
holds_null ts is = λ j begins.
    let whole = null_is j (sym (is j begins)) in (null, (ap of_json whole, shallow whole (omega arith)), refl)

-- items, one after another

pub next_holds : {P : Data → Type 0} {n : ℕ} (old ts new : List Token) → NextItem old (Some ts) new → HoldsTree n P ts
    → HoldsNext n P old new
next_holds old ts new next holds = λ js begins.
    let r = next js begins in (r.0, r.1, r.2, holds r.0 r.3, r.4)

pub none_left : (old new : List Token) → NextItem old None new → HoldsItems 0 (λ ds. ds ≡ no_items) old
none_left old new next = λ js begins.
    let none = next js begins in (no_items, (ap of_items none, items_shallow none (omega arith)), refl)

pub item_read : (js more : text.Items) (j : text.Json) (d : Data) (ds : Items) → js ≡ text.item j more → of_json j ≡ Some d
    → of_items more ≡ Some ds → of_items js ≡ Some (item d ds)
item_read js more j d ds is one others = ap of_items is ∙ rw (one, others) refl

pub one_then : {P : Data → Type 0} {Q R : Items → Type 0} {n : ℕ} (old mid : List Token) → HoldsNext n P old mid
    → HoldsItems n Q mid → ((d : Data) (ds : Items) → P d → Q ds → R (item d ds)) → HoldsItems n R old
one_then old mid next rest f = λ js begins.
    let r = next js begins in
    let m = rest r.1 r.4 in (
      item r.3.0 m.0,
      (item_read js r.1 r.0 r.3.0 m.0 r.2 r.3.1.0 m.1.0, items_shallow r.2 (omega (arith, r.3.1.1, m.1.1))),
      f r.3.0 m.0 r.3.2 m.2,
    )

pub items_of : {P : Items → Type 0} {n : ℕ} (ts rest : List Token)
    → ((j : text.Json) → BeginsWith ts j → (js : text.Items) × (j ≡ text.array js) × InItems rest js)
    → HoldsItems n P rest → HoldsTree (suc n) (λ d. (ds : Items) × (d ≡ array ds) × P ds) ts
items_of ts rest is holds = λ j begins.
    let a = is j begins in
    let m = holds a.0 a.2 in (
      array m.0,
      (ap of_json a.1 ∙ ap (option_map array) m.1.0, shallow a.1 (omega (arith, m.1.1))),
      (m.0, refl, m.2),
    )

pub if_reported : {X Y : Type 0} {P : X → Type 0} {f : X → Y} {seen : text.Json → Option Y} (ts : List Token) (o : Option X)
    → ((x : X) → ((j : text.Json) → BeginsWith ts j → Some (f x) ≡ seen j) → P x)
    → ((j : text.Json) → BeginsWith ts j → option_map f o ≡ seen j) → IfSome o P
if_reported ts None k reported = tt
if_reported ts (Some x) k reported = k x reported

-- the items of an array, up to where the tokens `left` begin, spell xs
abbrev pub ItemsSoFar : {X : Type 0} → ℕ → (Data → X → Type 0) → List Token → List Token → List X → Type 0
ItemsSoFar {X = X} n S ts left xs = (rest : List X) → HoldsItems n (λ ds. SpellsEach S ds rest) left
    → HoldsTree (suc n) (λ d. (ds : Items) × (d ≡ array ds) × SpellsEach S ds (xs ++ rest)) ts

pub items_none : {X : Type 0} (n : ℕ) (S : Data → X → Type 0) (ts left : List Token)
    → ((j : text.Json) → BeginsWith ts j → (js : text.Items) × (j ≡ text.array js) × InItems left js)
    → ItemsSoFar n S ts left []
items_none n S ts left is = λ rest holds. items_of ts left is holds

pub items_more : {X : Type 0} (n : ℕ) (S : Data → X → Type 0) (ts left one new : List Token) (xs : List X) (x : X)
    → NextItem left (Some one) new → HoldsTree n (λ d. S d x) one → ItemsSoFar n S ts left xs
    → ItemsSoFar n S ts new (xs ++ x ∷ [])
items_more n S ts left one new xs x next holds so_far = λ rest more.
    let all = so_far (x ∷ rest) (one_then left new (next_holds left one new next holds) more (λ d ds p q. (p, q))) in
    rw append_assoc all

pub items_all : {X : Type 0} (n : ℕ) (S : Data → X → Type 0) (ts left new : List Token) (xs : List X)
    → NextItem left None new → ItemsSoFar n S ts left xs
    → HoldsTree (suc n) (λ d. (ds : Items) × (d ≡ array ds) × SpellsEach S ds xs) ts
items_all n S ts left new xs next so_far =
    let all = so_far [] (items_deeper 0 n left (omega arith) (items_by left (λ ds none. rw none tt) (none_left left new next))) in rw append-nil at all
