-- What is told in several steps.
use Rattle.std.proofs.Common.{◌≡◌, ◌∙◌, ℕ, ◌+◌, ◌<◌, List, [], ◌∷◌, ◌++◌, length, take, get_or, map, Bool, true, false, Option, Some, None, Result, Ok, Err, refl, sym, ap, append_assoc}
use Rattle.std.specs.Prelude.{OnOk, codes, decimal, ◌||◌}
use Rattle.std.proofs.lemmas.List.{append-nil, map-append, take_all, take_more}
use Rattle.json.specs.Token.{Token, begin_object, end_object, begin_array, end_array, key}
use Rattle.json.specs.Tree.{items_tokens, members_tokens}
use Rattle.serde_json.specs.Data.{Data}
use Rattle.serde_json.specs.Data as of
use Rattle.serde_json.specs.View.{items_of}
use Rattle.serde_json.specs.Written.{items_outline, members_outline}
use Rattle.sq_base.specs.declared.ids.HomeId.{HomeId}
use Rattle.sq_base.specs.declared.row.Row.{Row}
use Rattle.sq_calls.specs.declared.calls.AskedAttributes.{AskedAttributes}
use Rattle.sq_model.specs.declared.task.Task.{Task}
use Rattle.sq_replies.specs.Replies.{queue_url, if_asked, attributes_data, message_data, text_member, text_members, task_data}
use Rattle.sq_replies.specs.inside.Told.{tokens_of, all_tokens, text_tokens, texts_tokens, value_tokens}

pub added : {A : Type 0} (a b c ts us : List A) → b ≡ a ++ ts → c ≡ b ++ us → c ≡ a ++ (ts ++ us)
added {A} a b c ts us one more = more ∙ ap (λ (front : List A). front ++ us) one ∙ append_assoc a ts us

pub adds_more : {E A : Type 0} (r : Result (Unit {0}) E) (a b c ts us : List A) → b ≡ a ++ ts → OnOk r (c ≡ b ++ us) → OnOk r (c ≡ a ++ (ts ++ us))
adds_more {E} {A} (Ok x) a b c ts us one more = added a b c ts us one more
adds_more {E} {A} (Err e) a b c ts us one more = more

-- the last of several
pub adds_last : {E A : Type 0} (r : Result (Unit {0}) E) (b c us : List A) → OnOk r (c ≡ b ++ us) → OnOk r (c ≡ b ++ (us ++ []))
adds_last {E} {A} (Ok x) b c us more = more ∙ ap (λ (ts : List A). b ++ ts) (sym (append-nil us))
adds_last {E} {A} (Err e) b c us more = more

-- ---- lists and members, and what closes them

items_told : (ds : List Data) → items_tokens (items_outline (items_of ds)) ≡ all_tokens ds ++ end_array ∷ []
items_told [] = refl
items_told (d ∷ ds) = ap (λ (ts : List Token). tokens_of d ++ ts) (items_told ds) ∙ sym (append_assoc (tokens_of d) (all_tokens ds) (end_array ∷ []))

pub one_list : {E : Type 0} (r : Result (Unit {0}) E) (name : List ℕ) (ds : List Data) (a b c e : List Token) → b ≡ a ++ begin_object ∷ key name ∷ begin_array ∷ [] → c ≡ b ++ all_tokens ds
    → OnOk r (e ≡ c ++ end_array ∷ end_object ∷ []) → OnOk r (e ≡ a ++ tokens_of (of.object (of.member name (of.array (items_of ds)) of.no_members)))
one_list r name ds a b c e one two three =
    rw (items_told ds, append_assoc (all_tokens ds) (end_array ∷ []) (end_object ∷ []))
    (adds_more r a b e (begin_object ∷ key name ∷ begin_array ∷ []) (all_tokens ds ++ end_array ∷ end_object ∷ []) one
    (adds_more r b c e (all_tokens ds) (end_array ∷ end_object ∷ []) two three))

pub two_lists : {E : Type 0} (r : Result (Unit {0}) E) (n m : List ℕ) (ds es : List Data) (a b c f g h : List Token) → b ≡ a ++ begin_object ∷ key n ∷ begin_array ∷ [] → c ≡ b ++ all_tokens ds
    → f ≡ c ++ end_array ∷ key m ∷ begin_array ∷ [] → g ≡ f ++ all_tokens es → OnOk r (h ≡ g ++ end_array ∷ end_object ∷ [])
    → OnOk r (h ≡ a ++ tokens_of (of.object (of.member n (of.array (items_of ds)) (of.member m (of.array (items_of es)) of.no_members))))
two_lists r n m ds es a b c f g h one two three four five =
    let last = all_tokens es ++ end_array ∷ end_object ∷ [] in
    let next = end_array ∷ key m ∷ begin_array ∷ last in
    rw (items_told ds, items_told es, append_assoc (all_tokens es) (end_array ∷ []) (end_object ∷ []), append_assoc (all_tokens ds) (end_array ∷ []) (key m ∷ begin_array ∷ last))
    (adds_more r a b h (begin_object ∷ key n ∷ begin_array ∷ []) (all_tokens ds ++ next) one
    (adds_more r b c h (all_tokens ds) next two
    (adds_more r c f h (end_array ∷ key m ∷ begin_array ∷ []) last three
    (adds_more r f g h (all_tokens es) (end_array ∷ end_object ∷ []) four five))))

text_told : (name : List ℕ) (text : Option (List ℕ)) (rest : of.Members) → members_tokens (members_outline (text_member name text rest)) ≡ text_tokens name text ++ members_tokens (members_outline rest)
text_told name None rest = refl
text_told name (Some text) rest = refl

texts_told : (ts : List (List ℕ × Option (List ℕ))) → members_tokens (members_outline (text_members ts)) ≡ texts_tokens ts ++ end_object ∷ []
texts_told [] = refl
texts_told (t ∷ ts) =
    text_told t.0 t.1 (text_members ts) ∙ ap (λ (more : List Token). text_tokens t.0 t.1 ++ more) (texts_told ts) ∙ sym (append_assoc (text_tokens t.0 t.1) (texts_tokens ts) (end_object ∷ []))

pub inner_texts : {E : Type 0} (r : Result (Unit {0}) E) (name : List ℕ) (ts : List (List ℕ × Option (List ℕ))) (a b c d e f : List Token)
    → b ≡ a ++ begin_object ∷ [] → c ≡ b ++ key name ∷ begin_object ∷ [] → d ≡ c ++ texts_tokens ts → e ≡ d ++ end_object ∷ [] → OnOk r (f ≡ e ++ end_object ∷ [])
    → OnOk r (f ≡ a ++ tokens_of (of.object (of.member name (of.object (text_members ts)) of.no_members)))
inner_texts r name ts a b c d e f one two three four five =
    rw (texts_told ts, append_assoc (texts_tokens ts) (end_object ∷ []) (end_object ∷ []))
    (adds_more r a b f (begin_object ∷ []) (key name ∷ begin_object ∷ (texts_tokens ts ++ end_object ∷ end_object ∷ [])) one
    (adds_more r b c f (key name ∷ begin_object ∷ []) (texts_tokens ts ++ end_object ∷ end_object ∷ []) two
    (adds_more r c d f (texts_tokens ts) (end_object ∷ end_object ∷ []) three
    (adds_more r d e f (end_object ∷ []) (end_object ∷ []) four five))))

-- the attributes of a message, where one is asked for
pub attributes_told : (count sent : Bool) (row : Row) → (count || sent) ≡ true
    → value_tokens (codes "Attributes") (attributes_data (record { receive_count = count; sent_timestamp = sent }) row)
    ≡ key (codes "Attributes") ∷ begin_object ∷ (text_tokens (codes "ApproximateReceiveCount") (if_asked count (decimal row.receives)) ++ (text_tokens (codes "SentTimestamp") (if_asked sent (decimal row.enqueued)) ++ end_object ∷ []))
attributes_told true true row some = refl
attributes_told true false row some = refl
attributes_told false true row some = refl
attributes_told false false row some = absurd (cc)

-- ---- up to one more

all_last : (ds : List Data) (d : Data) → all_tokens (ds ++ d ∷ []) ≡ all_tokens ds ++ tokens_of d
all_last [] d = append-nil (tokens_of d)
all_last (e ∷ ds) d = ap (λ (ts : List Token). tokens_of e ++ ts) (all_last ds d) ∙ sym (append_assoc (tokens_of e) (all_tokens ds) (tokens_of d))

all_more : {A : Type 0} (f : A → Data) (xs : List A) (i : ℕ) (x : A) → i < length xs → all_tokens (map f (take (i + 1) xs)) ≡ all_tokens (map f (take i xs)) ++ tokens_of (f (get_or xs i x))
all_more {A} f xs i x lt =
    ap (λ (ys : List A). all_tokens (map f ys)) (take_more xs i x lt) ∙ ap all_tokens (map-append f (take i xs) (get_or xs i x ∷ [])) ∙ all_last (map f (take i xs)) (f (get_or xs i x))

-- the first part of each conclusion says nothing: it shows `grind` the read of an item
pub url_at_read : (names : List (List ℕ)) (i : ℕ) (name : List ℕ) → i < length names
    → (get_or names i name ≡ get_or names i name)
    × (all_tokens (map (λ name. of.string (queue_url name)) (take (i + 1) names)) ≡ all_tokens (map (λ name. of.string (queue_url name)) (take i names)) ++ tokens_of (of.string (queue_url (get_or names i name))))
url_at_read names i name lt = (refl, all_more (λ name. of.string (queue_url name)) names i name lt)

pub message_at_read : (asked : AskedAttributes) (home : HomeId) (rows : List Row) (i : ℕ) (row : Row) → i < length rows
    → (get_or rows i row ≡ get_or rows i row)
    × (all_tokens (map (message_data asked home) (take (i + 1) rows)) ≡ all_tokens (map (message_data asked home) (take i rows)) ++ tokens_of (message_data asked home (get_or rows i row)))
message_at_read asked home rows i row lt = (refl, all_more (message_data asked home) rows i row lt)

pub task_at_read : (tasks : List Task) (i : ℕ) (task : Task) → i < length tasks
    → (get_or tasks i task ≡ get_or tasks i task)
    × (all_tokens (map task_data (take (i + 1) tasks)) ≡ all_tokens (map task_data (take i tasks)) ++ tokens_of (task_data (get_or tasks i task)))
task_at_read tasks i task lt = (refl, all_more task_data tasks i task lt)

pub ruleset urls_grow = (url_at_read, take_all, append-nil, append_assoc)

pub ruleset messages_grow = (message_at_read, take_all, append-nil, append_assoc)

pub ruleset tasks_grow = (task_at_read, take_all, append-nil, append_assoc)
