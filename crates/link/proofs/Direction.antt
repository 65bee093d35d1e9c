-- What one direction of a link keeps, rule by rule.
use Rattle.std.proofs.Common.{◌≡◌, ℕ, ◌+◌, ◌-◌, ◌%◌, ◌<◌, ◌≤◌, max, List, [], ◌∷◌, ◌++◌, length, get_or, take, drop, sym, ap, ◌∙◌, subst, arith}
use Rattle.std.proofs.lemmas.List.{length-drop, length_push, drop-append-le, drop-drop, take-append-le, take_more, get_or-drop}
use Rattle.std.proofs.ByRecursion.{All-get_or, All-push}
use Rattle.std.specs.List.{AllByRecursion}
use Rattle.frame.specs.Packet.{IsPacket}
use Rattle.link.proofs.Numbers.{one_more, oldest_is, plus, same_index, before, one_less, gap_is}
use Rattle.link.proofs.Flight.{Packed, packed, Flight, flight_first, flight_lower, flight_higher, flight_grown, flight_push, flight_tail}
use Rattle.link.proofs.Rising.{Rising, rising_bound, rising_first, rising_tail, rising_front, rising_push}

-- the end that takes packets, by the packets taken and how many of them were released
pub record Sender (next : ℕ) (held : List (List ℕ)) (sent cursor : ℕ) (took : List (List ℕ)) (freed : ℕ) : Type 0 where
  pub held_is : held ≡ drop freed took
  pub next_is : next ≡ length took % 256
  pub room : length took ≤ freed + 16
  pub cursor_sent : cursor ≤ sent
  pub sent_took : freed + sent ≤ length took
  pub packets : AllByRecursion IsPacket took

-- the end that hands packets up
pub record Receiver (sent expected : ℕ) (took handed : List (List ℕ)) (freed : ℕ) : Type 0 where
  pub handed_is : handed ≡ take (length handed) took
  pub expected_is : expected ≡ length handed % 256
  pub freed_handed : freed ≤ length handed
  pub handed_sent : length handed ≤ freed + sent

-- both, with the packets on their way, and the IDs that the replies on their way back name
pub record Direction (next : ℕ) (held : List (List ℕ)) (sent cursor expected : ℕ) (took handed : List (List ℕ)) (freed : ℕ) (ps : List Packed) (ns : List ℕ) : Type 0 where
  pub near : Sender next held sent cursor took freed
  pub far : Receiver sent expected took handed freed
  pub flight : Flight took (freed + sent) (length handed) ps
  pub replies : Rising (length handed) freed ns

module _ {n : ℕ} {h : List (List ℕ)} {s c x : ℕ} {T U : List (List ℕ)} {R : ℕ} {ps : List Packed} {ns : List ℕ} (w : Direction n h s c x T U R ps ns) where
  pub held_length : R + length h ≡ length T
  held_length = let e = ap length w.near.held_is ∙ length-drop R T in omega arith

  oldest_place : (n + 256 - length h) % 256 ≡ R % 256
  oldest_place =
      let e : length h ≡ length T - R = omega (arith, held_length) in
      rw (w.near.next_is, e) (oldest_is (length T) R (omega arith) w.near.room)

  pub offers : (p : List ℕ) → IsPacket p → length h < 16 → Direction ((n + 1) % 256) (h ++ (p ∷ [])) s c x (T ++ (p ∷ [])) U R ps ns
  offers p is small =
      let len = length_push T p in
      let hl = held_length in
      record {
        near = record {
          held_is = ap (λ l. l ++ (p ∷ [])) w.near.held_is ∙ sym (drop-append-le R T (p ∷ []) (omega arith));
          next_is = rw (w.near.next_is, len) (one_more (length T));
          room = omega arith;
          cursor_sent = w.near.cursor_sent;
          sent_took = omega arith;
          packets = All-push IsPacket T p w.near.packets is;
        };
        far = record {
          handed_is = w.far.handed_is ∙ sym (take-append-le (length U) T (p ∷ []) (omega arith));
          expected_is = w.far.expected_is;
          freed_handed = w.far.freed_handed;
          handed_sent = w.far.handed_sent;
        };
        flight = flight_grown p w.near.sent_took w.flight;
        replies = w.replies;
      }

  -- the cursor may move back
  pub rewinds : (back : ℕ) → back ≤ s → Direction n h s back x T U R ps ns
  rewinds back fits =
      record {
        near = record { held_is = w.near.held_is; next_is = w.near.next_is; room = w.near.room; cursor_sent = fits; sent_took = w.near.sent_took; packets = w.near.packets };
        far = w.far;
        flight = w.flight;
        replies = w.replies;
      }

  module _ (more : c < length h) where
    advances : (qs : List Packed) → Flight T (R + max s (c + 1)) (length U) qs → Direction n h (max s (c + 1)) (c + 1) x T U R qs ns
    advances qs f =
        let hl = held_length in
        record {
          near = record { held_is = w.near.held_is; next_is = w.near.next_is; room = w.near.room; cursor_sent = omega arith; sent_took = omega arith; packets = w.near.packets };
          far = record { handed_is = w.far.handed_is; expected_is = w.far.expected_is; freed_handed = w.far.freed_handed; handed_sent = omega arith };
          flight = f;
          replies = w.replies;
        }

    pub at_cursor : get_or h c [] ≡ get_or T (R + c) []
    at_cursor = ap (λ l. get_or l c []) w.near.held_is ∙ get_or-drop R T c []

    pub cursor_packet : IsPacket (get_or h c [])
    cursor_packet =
        let hl = held_length in
        subst IsPacket (sym at_cursor) (All-get_or IsPacket T (R + c) [] (omega arith) w.near.packets)

    higher : Flight T (R + max s (c + 1)) (length U) ps
    higher = flight_higher (R + max s (c + 1)) (omega arith) w.flight

    pub sends_lost : Direction n h (max s (c + 1)) (c + 1) x T U R ps ns
    sends_lost = advances ps higher

    pub sends_whole : Direction n h (max s (c + 1)) (c + 1) x T U R (ps ++ (packed (((n + 256 - length h) % 256 + c) % 256) (length (get_or h c [])) (get_or h c []) ∷ [])) ns
    sends_whole =
        let hl = held_length in
        let id : ((n + 256 - length h) % 256 + c) % 256 ≡ (R + c) % 256 = rw oldest_place (plus R c) in
        advances _ (rw (id, at_cursor) (flight_push (R + c) (omega arith) (omega arith) (omega arith) higher))

module _ {n : ℕ} {h : List (List ℕ)} {s c x : ℕ} {T U : List (List ℕ)} {R : ℕ} {ps : List Packed} where
  -- a frame arrives at the far end that is no packet, or not one to hand up
  pub passes : {ns : List ℕ} (qs : List Packed) → Direction n h s c x T U R (qs ++ ps) ns → Direction n h s c x T U R ps ns
  passes qs w = record { near = w.near; far = w.far; flight = flight_tail qs ps w.flight; replies = w.replies }

  -- a frame in flight has the size of its packet
  pub size_is : (m : ℕ) (p : List ℕ) {ns : List ℕ} → Direction n h s c x T U R (packed x m p ∷ ps) ns → m ≡ length p
  size_is m p w =
      let (i, is, below, near, rest) = flight_first w.flight in
      let body : p ≡ get_or T i [] = cc in
      let size : m ≡ length (get_or T i []) = cc in
      size ∙ ap length (sym body)

  -- a packet arrives that it hands up, with a reply that takes the place of one that waited
  pub hands : (m : ℕ) (p : List ℕ) (ns old : List ℕ) → Direction n h s c x T U R (packed x m p ∷ ps) (ns ++ old) → Direction n h s c ((x + 1) % 256) T (U ++ (p ∷ [])) R ps (ns ++ (x ∷ []))
  hands m p ns old w =
      let (i, is, below, near, rest) = flight_first w.flight in
      let id : x ≡ i % 256 = cc in
      let body : p ≡ get_or T i [] = cc in
      let at : i ≡ length U = same_index i (length U) (omega arith) (omega arith) (omega arith) in
      let len = length_push U p in
      let named : x ≡ (length U + 1 + 255) % 256 = w.far.expected_is ∙ sym (one_less (length U)) in
      let two : take (length U + 1) T ≡ take (length U) T ++ (get_or T (length U) [] ∷ []) = take_more T (length U) [] (omega arith) in
      record {
        near = w.near;
        far = record {
          handed_is = ap (λ l. l ++ (p ∷ [])) w.far.handed_is ∙ ap (λ q. take (length U) T ++ (q ∷ [])) (body ∙ ap (λ j. get_or T j []) at) ∙ sym two ∙ ap (λ m. take m T) (sym len);
          expected_is = rw (w.far.expected_is, len) (one_more (length U));
          freed_handed = omega arith;
          handed_sent = omega arith;
        };
        flight = flight_lower (length (U ++ (p ∷ []))) (omega arith) rest;
        replies = rw (len, named) (rising_push (length U + 1) (omega arith) (rising_front ns old w.replies));
      }

  -- the far end asks again
  pub objects : (ns old : List ℕ) → Direction n h s c x T U R ps (ns ++ old) → Direction n h s c x T U R ps (ns ++ ((x + 255) % 256 ∷ []))
  objects ns old w =
      let named : (x + 255) % 256 ≡ (length U + 255) % 256 = rw w.far.expected_is (before (length U)) in
      record { near = w.near; far = w.far; flight = w.flight; replies = rw named (rising_push (length U) (omega arith) (rising_front ns old w.replies)) }

  -- a reply is lost on its way back
  pub loses : (ns old : List ℕ) → Direction n h s c x T U R ps (ns ++ old) → Direction n h s c x T U R ps ns
  loses ns old w = record { near = w.near; far = w.far; flight = w.flight; replies = rising_front ns old w.replies }

  -- a frame arrives at the near end that is no reply
  pub skips : (ms ns : List ℕ) → Direction n h s c x T U R ps (ms ++ ns) → Direction n h s c x T U R ps ns
  skips ms ns w = record { near = w.near; far = w.far; flight = w.flight; replies = rising_tail ms ns w.replies }

  -- a reply that names a arrives at the near end
  module _ {a : ℕ} {ns : List ℕ} (w : Direction n h s c x T U R ps (a ∷ ns)) where
    abbrev d : ℕ
    d = (a + 257 - (n + 256 - length h) % 256) % 256

    pub place : (k : ℕ) × (R + d ≡ k) × (d ≤ s) × Rising (length U) k ns
    place =
        let (k, is, low, high, rest) = rising_first w.replies in
        let e : d ≡ k - R = ap (λ o. (a + 257 - o) % 256) (oldest_place w) ∙ ap (λ b. (b + 257 - R % 256) % 256) is ∙ gap_is k R low (omega arith) in
        (k, omega arith, omega arith, rest)

    pub releases : Direction n (drop d h) (s - d) (c - d) x T U (R + d) ps ns
    releases =
        let (k, is, fits, rest) = place in
        let low = rising_bound rest in
        record {
          near = record {
            held_is = ap (drop d) w.near.held_is ∙ drop-drop d R T;
            next_is = w.near.next_is;
            room = omega arith;
            cursor_sent = omega arith;
            sent_took = omega arith;
            packets = w.near.packets;
          };
          far = record { handed_is = w.far.handed_is; expected_is = w.far.expected_is; freed_handed = omega arith; handed_sent = omega arith };
          flight = flight_higher (R + d + (s - d)) (omega arith) w.flight;
          replies = rw is rest;
        }
