-- What a head with its content, and the end of a part, come to on the way to an offset.
use Rattle.std.proofs.Common.{◌≡◌, ◌∙◌, sym, ap, subst, refl, ℕ, ◌+◌, ◌-◌, ◌<◌, ◌≤◌, arith, List, [], ◌∷◌, ◌++◌, length, drop, append_assoc, Bool, true, false}
use Rattle.std.proofs.lemmas.List.{append-nil, length-append, drop_at}
use Rattle.rmp_wire.specs.declared.head.Head.{Head}
use Rattle.rmp_wire.specs.declared.head.Head.TheVariants.{Nil, Truth, Whole, F32Bits, F64Bits, Text, Bin, Array, Map, Ext}
use Rattle.rmp_wire.specs.Heads.{IsHead}
use Rattle.rmp_wire.specs.Kinds.{parts_head, content_len}
use Rattle.rmp_decode.specs.Skip.{parts_count}
use Rattle.rmp_scan.specs.Parts.{parts_after}
use Rattle.rmp_scan.specs.Openings.{SpellsSome}
use Rattle.rmp_scan.specs.Scans.{IsMessage}
use Rattle.rmp_scan.proofs.Rows.{Node, node_some, none_of, some-append}
use Rattle.rmp_scan.proofs.Scanning.{one_message, first_message}
use Rattle.rmp_path.specs.Places.{OwnBytes, IsNode, parts_of_head, TurnsInto, Leads, Holds, Locates, PartEnds, PassesTo, turn_first, turn_next}
use Rattle.rmp_path.specs.declared.node.Node as code
use Rattle.rmp_path.specs.declared.location.Location.{Location}
use Rattle.rmp_path.specs.declared.turn.Turn.{Turn}
use Rattle.rmp_wire.proofs.Canon.{canon_head_least}
use Rattle.rmp_wire.proofs.Writing.{head_some}

-- ---- the innermost turn

pub leads_more : (xs : List ℕ) (base : ℕ) (ts : List Turn) (ys : List ℕ) (place : ℕ) (t : Turn) (zs : List ℕ) → Leads xs base ts ys place
    → TurnsInto ys place t zs → Leads xs base (ts ++ t ∷ []) zs t.start
leads_more xs base [] ys place t zs l i =
    let here : TurnsInto xs base t zs = subst (λ z. TurnsInto xs z t zs) l.1 (subst (λ z. TurnsInto z place t zs) (sym l.0) i) in
    (zs, here, (refl, refl))
leads_more xs base (u ∷ ts) ys place t zs l i = (l.0, l.1, leads_more l.0 u.start ts ys place t zs l.2 i)

pub record Innermost (xs : List ℕ) (base : ℕ) (ts : List Turn) (t : Turn) (zs : List ℕ) (place : ℕ) : Type 0 where
  pub ys : List ℕ
  pub at : ℕ
  pub before : Leads xs base ts ys at
  pub turns : TurnsInto ys at t zs
  pub is : place ≡ t.start

pub innermost : (xs : List ℕ) (base : ℕ) (ts : List Turn) (t : Turn) (zs : List ℕ) (place : ℕ) → Leads xs base (ts ++ t ∷ []) zs place
    → Innermost xs base ts t zs place
innermost xs base [] t zs place l = record {
  ys = xs;
  at = base;
  before = (refl, refl);
  turns = subst (λ z. TurnsInto xs base t z) l.2.0 l.1;
  is = l.2.1;
}
innermost xs base (u ∷ ts) t zs place l =
    let i = innermost l.0 u.start ts t zs place l.2 in
    record { ys = i.ys; at = i.at; before = (l.0, l.1, i.before); turns = i.turns; is = i.is }

-- where the part begins
pub record Reached (from : List ℕ) (base : ℕ) (ys : List ℕ) (place : ℕ) : Type 0 where
  pub passed : List ℕ
  pub front : from ≡ passed ++ ys
  pub is : place ≡ base + length passed

pub reached : (xs : List ℕ) (base : ℕ) (ts : List Turn) (ys : List ℕ) (place : ℕ) → Leads xs base ts ys place → Reached xs base ys place
reached xs base [] ys place l = record { passed = []; front = l.0; is = (let e = l.1 in omega (arith, e)) }
reached xs base (t ∷ ts) ys place l =
    let i = l.1 in
    let r = reached l.0 t.start ts ys place l.2 in
    record {
      passed = i.head ++ (i.row ++ r.passed);
      front = i.front ∙ ap (λ z. i.head ++ (i.row ++ z)) r.front ∙ ap (λ z. i.head ++ z) (sym (append_assoc i.row r.passed ys))
          ∙ sym (append_assoc i.head (i.row ++ r.passed) ys);
      is = (let s = i.starts in let e = r.is in
          omega (arith, s, e, length-append i.head (i.row ++ r.passed), length-append i.row r.passed));
    }

-- ---- a part ends

module _ (xs : List ℕ) (base : ℕ) (t : Turn) (ys part rest : List ℕ) (place : ℕ) (i : TurnsInto xs base t ys) (front : ys ≡ part ++ rest)
    (spelled : IsMessage part) (ends : place ≡ t.start + length part) where
  row_grows : SpellsSome (t.before + 1) (i.row ++ part)
  row_grows = some-append t.before 1 i.row part i.before (one_message part spelled)

  -- another follows
  pub next_part : t.before + 1 < t.parts → TurnsInto xs base (turn_next t place) rest
  next_part more = record {
    len = i.len;
    head = i.head;
    row = i.row ++ part;
    front = i.front ∙ ap (λ z. i.head ++ z) (ap (λ z. i.row ++ z) front ∙ sym (append_assoc i.row part rest));
    is_head = i.is_head;
    many = i.many;
    before = row_grows;
    fewer = more;
    starts = (let s = i.starts in omega (arith, s, ends, length-append i.row part));
    previous = λ n e. record {
      earlier = i.row;
      last = part;
      split = refl;
      is_row = subst (λ z. SpellsSome z i.row) (omega (arith, e)) i.before;
      is_last = spelled;
      begins = (let s = i.starts in omega (arith, s));
    };
  }

  no_content : (b : Bool) (n : ℕ) → 0 ≡ content_len (parts_head b n)
  no_content true n = refl
  no_content false n = refl

  parts_are : (b : Bool) (n k : ℕ) → k ≡ parts_count b n → k ≡ parts_after (parts_head b n)
  parts_are true n k e = e
  parts_are false n k e = e

  -- it was the last one
  pub last_part : t.before + 1 ≡ t.parts → PartEnds xs base [] rest place
  last_part none =
      let node : Node i.head t.parts = record {
        head = parts_head t.is_map i.len;
        bytes = i.head;
        payload = [];
        front = sym (append-nil i.head);
        is_head = i.is_head;
        long = no_content t.is_map i.len;
        are_bytes = tt;
        many = parts_are t.is_map i.len t.parts i.many;
      } in
      let many : t.before + 1 ≡ t.parts + 0 = omega (arith, none) in
      let one = node_some i.head (i.row ++ part) t.parts 0 node (subst (λ z. SpellsSome z (i.row ++ part)) many row_grows) in
      record {
        ys = xs;
        start = base;
        leads = (refl, refl);
        part = i.head ++ (i.row ++ part);
        front = i.front ∙ ap (λ z. i.head ++ z) (ap (λ z. i.row ++ z) front ∙ sym (append_assoc i.row part rest))
            ∙ sym (append_assoc i.head (i.row ++ part) rest);
        spelled = first_message one.trees (i.head ++ (i.row ++ part)) one.many one.spelled;
        ends = (let s = i.starts in omega (arith, s, ends, length-append i.head (i.row ++ part), length-append i.row part));
      }

-- the part that the turns lead to ends where the list or the map does that is its last part
pub outer_ends : (from : List ℕ) (base : ℕ) (ts : List Turn) (t : Turn) (rest : List ℕ) (place : ℕ) → t.parts ≤ t.before + 1
    → PartEnds from base (ts ++ t ∷ []) rest place → PartEnds from base ts rest place
outer_ends from base ts t rest place none p =
    let i = innermost from base ts t p.ys p.start p.leads in
    let e = p.ends in
    let s = i.is in
    let f = i.turns.fewer in
    let w = last_part i.ys i.at t p.ys p.part rest place i.turns p.front p.spelled (omega (arith, e, s)) (omega (arith, none, f)) in
    record {
      ys = i.ys;
      start = i.at;
      leads = i.before;
      part = w.part;
      front = w.leads.0 ∙ w.front;
      spelled = w.spelled;
      ends = (let k = w.ends in let l = w.leads.1 in omega (arith, k, l));
    }

-- another part follows
pub part_follows : (from : List ℕ) (base : ℕ) (ts : List Turn) (t : Turn) (rest : List ℕ) (place : ℕ) → t.before + 1 < t.parts
    → PartEnds from base (ts ++ t ∷ []) rest place
    → Leads from base (ts ++ (turn_next t place) ∷ []) rest place
part_follows from base ts t rest place more p =
    let i = innermost from base ts t p.ys p.start p.leads in
    let e = p.ends in
    let s = i.is in
    leads_more from base ts i.ys i.at (turn_next t place) rest i.before
    (next_part i.ys i.at t p.ys p.part rest place i.turns p.front p.spelled (omega (arith, e, s)) more)

-- ---- a head with its content

pub record SomeParts (h : Head) (b : Bool) (n : ℕ) : Type 0 where
  pub len : ℕ
  pub is : h ≡ parts_head b len
  pub many : n ≡ parts_count b len

some_parts : (h : Head) (b : Bool) (n : ℕ) → parts_of_head h ≡ (b, n) → 0 < n → SomeParts h b n
some_parts Nil b n e s = absurd (omega (arith, s, ap (λ p. p.1) e))
some_parts (Truth t) b n e s = absurd (omega (arith, s, ap (λ p. p.1) e))
some_parts (Whole z) b n e s = absurd (omega (arith, s, ap (λ p. p.1) e))
some_parts (F32Bits k) b n e s = absurd (omega (arith, s, ap (λ p. p.1) e))
some_parts (F64Bits k) b n e s = absurd (omega (arith, s, ap (λ p. p.1) e))
some_parts (Text k) b n e s = absurd (omega (arith, s, ap (λ p. p.1) e))
some_parts (Bin k) b n e s = absurd (omega (arith, s, ap (λ p. p.1) e))
some_parts (Ext k tag) b n e s = absurd (omega (arith, s, ap (λ p. p.1) e))
some_parts (Array k) b n e s = record {
  len = k;
  is = ap (λ z. parts_head z k) (ap (λ p. p.0) e);
  many = sym (ap (λ p. p.1) e) ∙ ap (λ z. parts_count z k) (ap (λ p. p.0) e);
}
some_parts (Map k) b n e s = record {
  len = k;
  is = ap (λ z. parts_head z k) (ap (λ p. p.0) e);
  many = sym (ap (λ p. p.1) e) ∙ ap (λ z. parts_count z k) (ap (λ p. p.0) e);
}

after_of : (h : Head) (b : Bool) (n : ℕ) → parts_of_head h ≡ (b, n) → n ≡ parts_after h
after_of Nil b n e = sym (ap (λ p. p.1) e)
after_of (Truth t) b n e = sym (ap (λ p. p.1) e)
after_of (Whole z) b n e = sym (ap (λ p. p.1) e)
after_of (F32Bits k) b n e = sym (ap (λ p. p.1) e)
after_of (F64Bits k) b n e = sym (ap (λ p. p.1) e)
after_of (Text k) b n e = sym (ap (λ p. p.1) e)
after_of (Bin k) b n e = sym (ap (λ p. p.1) e)
after_of (Ext k tag) b n e = sym (ap (λ p. p.1) e)
after_of (Array k) b n e = sym (ap (λ p. p.1) e)
after_of (Map k) b n e = sym (ap (λ p. p.1) e)

no_row : SpellsSome 0 []
no_row = record { trees = Rattle.rmp_wire.specs.Msg.no_items; many = refl; spelled = refl }

module _ (xs : List ℕ) (place : ℕ) (node : code.Node) (is : IsNode xs node) where
  abbrev pub o : OwnBytes node.len xs
  o = is.own

  -- what follows it
  pub after_node : List ℕ
  after_node = o.rest

  -- the first of its parts
  pub first_part : 0 < node.parts → TurnsInto xs place (turn_first node (place + node.len)) o.rest
  first_part some =
      let p = some_parts o.head node.is_map node.parts is.parts some in
      let none : o.content ≡ [] = none_of o.content (o.long ∙ ap content_len p.is ∙ flat_of node.is_map p.len) in
      record {
        len = p.len;
        head = o.bytes;
        row = [];
        front = o.front ∙ ap (λ z. o.bytes ++ (z ++ o.rest)) none;
        is_head = subst (λ z. IsHead z o.bytes) p.is o.is_head;
        many = p.many;
        before = no_row;
        fewer = some;
        starts = (let l = o.len_is in omega (arith, l, ap length none));
        previous = λ n e. absurd (omega (arith, e));
      }
    where
      flat_of : (b : Bool) (n : ℕ) → content_len (parts_head b n) ≡ 0
      flat_of true n = refl
      flat_of false n = refl

  -- it has none
  pub leaf_ends : (from : List ℕ) (base : ℕ) (ts : List Turn) → Leads from base ts xs place → 0 ≡ node.parts
      → PartEnds from base ts o.rest (place + node.len)
  leaf_ends from base ts l none =
      let d : Node (o.bytes ++ o.content) (parts_after o.head) = record {
        head = o.head;
        bytes = o.bytes;
        payload = o.content;
        front = refl;
        is_head = o.is_head;
        long = o.long;
        are_bytes = o.are_bytes;
        many = refl;
      } in
      let zero : 0 ≡ parts_after o.head + 0 = omega (arith, none, after_of o.head node.is_map node.parts is.parts) in
      let one = node_some (o.bytes ++ o.content) [] (parts_after o.head) 0 d (subst (λ z. SpellsSome z []) zero no_row) in
      record {
        ys = xs;
        start = place;
        leads = l;
        part = o.bytes ++ o.content;
        front = o.front ∙ sym (append_assoc o.bytes o.content o.rest);
        spelled = subst IsMessage (append-nil (o.bytes ++ o.content))
            (first_message one.trees ((o.bytes ++ o.content) ++ []) one.many one.spelled);
        ends = (let l = o.len_is in omega (arith, l, length-append o.bytes o.content));
      }

-- ---- the loop

-- the message that is looked at comes after whole ones, and the turns lead to the part that begins at the place
pub record Walks (input : List ℕ) (offset message place : ℕ) (turns : List Turn) : Type 0 where
  pub many : ℕ
  pub before : List ℕ
  pub from : List ℕ
  pub front : input ≡ before ++ from
  pub earlier : SpellsSome many before
  pub is_message : message ≡ length before
  pub there : List ℕ
  pub leads : Leads from message turns there place
  pub within : place ≤ offset
  pub inside : place ≤ length input
  pub is : drop place input ≡ there

module _ (input : List ℕ) (offset : ℕ) where
  walked : (many message place : ℕ) (before from there : List ℕ) (turns : List Turn) → input ≡ before ++ from → SpellsSome many before
      → message ≡ length before → Leads from message turns there place → place ≤ offset → Walks input offset message place turns
  walked many message place before from there turns front earlier m l w =
      let r = reached from message turns there place l in
      let e = r.is in
      let whole : input ≡ (before ++ r.passed) ++ there = front ∙ ap (λ z. before ++ z) r.front ∙ sym (append_assoc before r.passed there) in
      let at : place ≡ length (before ++ r.passed) = omega (arith, e, m, length-append before r.passed) in
      record {
        many = many;
        before = before;
        from = from;
        front = front;
        earlier = earlier;
        is_message = m;
        there = there;
        leads = l;
        within = w;
        inside = omega (arith, at, ap length whole, length-append (before ++ r.passed) there);
        is = ap (drop place) whole ∙ drop_at (before ++ r.passed) there place (sym at);
      }

  pub walk_start : Walks input offset 0 0 []
  walk_start = walked 0 0 0 [] input input [] refl no_row refl (refl, refl) (omega arith)

  module _ (message place : ℕ) (turns : List Turn) (w : Walks input offset message place turns) (node : code.Node)
      (is : IsNode (drop place input) node) (fits : node.len ≤ offset - place) where
    abbrev pub here : IsNode w.there node
    here = subst (λ z. IsNode z node) w.is is

    pub node_length : place + node.len ≤ length input
    node_length =
        let o = is.own in
        let f = o.front in
        let l = o.len_is in
        let i = w.inside in
        omega (
          arith,
          l,
          i,
          ap length f,
          length-append o.bytes (o.content ++ o.rest),
          length-append o.content o.rest,
          Rattle.std.proofs.lemmas.List.length-drop place input,
        )

    -- less of the input is ahead then
    pub walk_smaller : length input - (place + node.len) < length input - place
    walk_smaller =
        let o = is.own in
        let l = o.len_is in
        omega (arith, node_length, l, canon_head_least o.head o.bytes o.is_head, head_some o.head)

    -- into its first part
    pub walk_in : 0 < node.parts → Walks input offset message (place + node.len) (turns ++ turn_first node (place + node.len) ∷ [])
    walk_in some =
        let i = w.within in
        walked w.many message (place + node.len) w.before w.from here.own.rest (turns ++ turn_first node (place + node.len) ∷ []) w.front w.earlier
        w.is_message
        (leads_more w.from message turns w.there place (turn_first node (place + node.len)) here.own.rest w.leads
        (first_part w.there place node here some)) (omega (arith, fits, i))

    -- past it, if it has none
    pub walk_past : 0 ≡ node.parts → PartEnds w.from message turns here.own.rest (place + node.len)
    walk_past none = leaf_ends w.there place node here w.from message turns w.leads none

    pub walk_on : (turns' : List Turn) (more : Bool) → 0 ≡ node.parts
        → ((from rest : List ℕ) (base : ℕ) → PartEnds from base turns rest (place + node.len) → PassesTo from base turns' rest (place + node.len) more)
        → more ≡ true → Walks input offset message (place + node.len) turns'
    walk_on turns' more none f t =
        let i = w.within in
        let p = subst (PassesTo w.from message turns' here.own.rest (place + node.len)) t (f w.from here.own.rest message (walk_past none)) in
        walked w.many message (place + node.len) w.before w.from here.own.rest turns' w.front w.earlier w.is_message p (omega (arith, fits, i))

    pub walk_over : (turns' : List Turn) (more : Bool) → 0 ≡ node.parts
        → ((from rest : List ℕ) (base : ℕ) → PartEnds from base turns rest (place + node.len) → PassesTo from base turns' rest (place + node.len) more)
        → more ≡ false → Walks input offset (place + node.len) (place + node.len) turns'
    walk_over turns' more none f t =
        let i = w.within in
        let m = w.is_message in
        let p = subst (PassesTo w.from message turns' here.own.rest (place + node.len)) t (f w.from here.own.rest message (walk_past none)) in
        let q = p.1 in
        let e = q.ends in
        let s = q.leads.1 in
        walked (w.many + 1) (place + node.len) (place + node.len) (w.before ++ q.part) here.own.rest here.own.rest turns'
        (w.front ∙ ap (λ z. w.before ++ z) (q.leads.0 ∙ q.front) ∙ sym (append_assoc w.before q.part here.own.rest))
        (some-append w.many 1 w.before q.part w.earlier (one_message q.part q.spelled))
        (omega (arith, m, e, s, length-append w.before q.part))
        (subst (λ z. Leads here.own.rest (place + node.len) z here.own.rest (place + node.len)) (sym p.0) (refl, refl)) (omega (arith, fits, i))

  -- the part was found
  pub walk_found : (message place : ℕ) (turns : List Turn) (w : Walks input offset message place turns) (found : Location) → found.message ≡ message
      → found.place ≡ place → found.turns.items ≡ turns → Holds (drop place input) (offset - place) → Locates input offset found
  walk_found message place turns w found m p t h =
      let i = w.within in
      record {
        many = w.many;
        before = w.before;
        from = w.from;
        front = w.front;
        earlier = w.earlier;
        message = m ∙ w.is_message;
        there = w.there;
        leads = rw (m, p, t) w.leads;
        reached = rw p i;
        holds = rw p (subst (λ z. Holds z (offset - place)) w.is h);
      }
