-- The loop over a reader and a writer.
use Rattle.std.proofs.Common.{◌≡◌, ℕ, zero, suc, ◌+◌, ◌<◌, ◌≤◌, List, [], ◌∷◌, ◌++◌, length, get_or, slice_get, take, drop, Some, None, Ok, Err, Option, Result, true, IfSome, OnOk, sym, refl, ap, ◌∙◌, subst, append_assoc, append-nil, true≢false}
use Rattle.std.specs.Option.{option_map}
use Rattle.std.specs.List.{concat}
use Rattle.std.specs.Io.KnownBytes.{Appends, Consumes, Keeps, IsAtEnd, ReadConsumes}
use Rattle.std.proofs.lemmas.List.{take-append-drop, take_more, take_all}
use Rattle.std.proofs.Math.Seq.{take-append_seam}
use Rattle.arrayvec.specs.ArrayString.{ArrayString}
use Rattle.device.specs.declared.device.RowDevice.{Ghosts}
use Rattle.console.specs.declared.failure.Failure.{Failure}
use Rattle.console.specs.declared.failure.Failure.TheVariants.{CannotRead}
use Rattle.console.specs.declared.session.Session.{Session}
use Rattle.console.specs.Sessions.{Stage, waiting, running, stopped, closed, left_open, at_end, closing_lines, is_stopped, LinesAnswered, SessionEnded, ConsoleOutput}
use Rattle.console.specs.SessionStands.{SessionStands, BytesTaken, EndTaken, printed}
use Rattle.console.specs.Loops.{BytesWritten, PieceAnswered, EndWritten, RunSoFar, OutputBegins, NoReadFailed, LoopEnded}
use Rattle.console.proofs.Known.{appends_none, appends_join, appends_kept, consumes_none, consumes_join, consumes_kept, read_first, read_all}
use Rattle.console.proofs.Bytes.{closed_join, answered_join, answered_parted, taken_join}
use Rattle.console.proofs.Determined.{lines_determined, output_determined}

-- what was written whole
pub whole_written : {T E : Type 0} (a b : Option (List ℕ)) (bytes : List ℕ) (result : Result T E) → (w : BytesWritten a b bytes result) → length bytes ≤ w.count → Appends a b bytes
whole_written a b bytes result w h = subst (Appends a b) (take_all w.count bytes h) w.appended

on_ok : {T E X : Type 0} (result : Result T E) → X → OnOk result X
on_ok (Ok t) x = x
on_ok (Err e) x = tt

-- a piece of the input
module _ {D : Type 0} (dev : Ghosts D) (a : Option (List ℕ)) (stage : Stage) (line piece : List ℕ) where
  abbrev pub TakenTo : Option (List ℕ) → ℕ → Session D → Type 0
  TakenTo b i s = (written : List ℕ) × Appends a b written × BytesTaken dev stage line (take i piece) written s

  pub piece_begun : (s : Session D) → SessionStands dev s stage line → TakenTo a 0 s
  piece_begun s k = ([], appends_none a, record { next = stage; answered = (refl, refl); stands = k })

  module _ (b c : Option (List ℕ)) (i : ℕ) (s after : Session D) (output : List ℕ) (before : TakenTo b i s) (within : i < length piece)
      (step : (at : Stage) (held : List ℕ) → SessionStands dev s at held → BytesTaken dev at held (get_or piece i 0 ∷ []) output after) where
    one_more : BytesTaken dev stage line (take (i + 1) piece) (before.0 ++ output) after
    one_more =
        let t = before.2 in
        subst (λ l. BytesTaken dev stage line l (before.0 ++ output) after) (sym (take_more piece i 0 within))
        (taken_join dev s after stage line (take i piece) (get_or piece i 0 ∷ []) before.0 output t (step t.next (left_open line (take i piece)) t.stands))

    pub piece_more : Appends b c output → TakenTo c (i + 1) after
    piece_more w = (before.0 ++ output, appends_join a b c before.0 output before.1 w, one_more)

    pub piece_failed : {T E : Type 0} (result : Result T E) (e : E) (k : ℕ) → result ≡ Err e → Appends b c (take k output) → PieceAnswered dev a c stage line piece result after
    piece_failed result e k is w = record {
      taken = take (i + 1) piece;
      untaken = drop (i + 1) piece;
      written = before.0 ++ take k output;
      unwritten = drop k output;
      parts = sym (take-append-drop (i + 1) piece);
      appended = appends_join a b c before.0 (take k output) before.1 w;
      answered = subst (λ t. BytesTaken dev stage line (take (i + 1) piece) t after)
          (sym (append_assoc before.0 (take k output) (drop k output) ∙ ap (λ t. before.0 ++ t) (take-append-drop k output))) one_more;
      all = rw is tt;
    }

  pub piece_all : {T E : Type 0} (b c : Option (List ℕ)) (i : ℕ) (s : Session D) (result : Result T E) → TakenTo b i s → length piece ≤ i → Keeps b c → PieceAnswered dev a c stage line piece result s
  piece_all b c i s result t h kept = record {
    taken = piece;
    untaken = [];
    written = t.0;
    unwritten = [];
    parts = sym (append-nil piece);
    appended = appends_kept a b c t.0 t.1 kept;
    answered = subst (λ l. BytesTaken dev stage line piece l s) (sym (append-nil t.0)) (subst (λ l. BytesTaken dev stage line l t.0 s) (take_all i piece h) t.2);
    all = on_ok result (refl, refl);
  }

-- the input's end
concat_parted : (lines : List (List ℕ)) (i : ℕ) (line : Option ArrayString) → option_map (λ l. l.bytes) line ≡ slice_get lines i →
    concat lines ≡ concat (take i lines) ++ (printed line ++ concat (drop (suc i) lines))
concat_parted [] zero None e = refl
concat_parted [] (suc i) None e = refl
concat_parted [] i (Some l) e = cc
concat_parted (x ∷ lines) zero None e = cc
concat_parted (x ∷ lines) zero (Some l) e = let same : x ≡ l.bytes = cc in ap (λ t. t ++ concat lines) same
concat_parted (x ∷ lines) (suc i) line e = ap (λ t. x ++ t) (concat_parted lines i line e) ∙ sym (append_assoc x (concat (take i lines)) (printed line ++ concat (drop (suc i) lines)))

concat_more : (lines : List (List ℕ)) (i : ℕ) (line : Option ArrayString) → option_map (λ l. l.bytes) line ≡ slice_get lines i → concat (take (suc i) lines) ≡ concat (take i lines) ++ printed line
concat_more [] zero None e = refl
concat_more [] (suc i) None e = refl
concat_more [] i (Some l) e = cc
concat_more (x ∷ lines) zero None e = cc
concat_more (x ∷ lines) zero (Some l) e = let same : x ≡ l.bytes = cc in append-nil x ∙ same
concat_more (x ∷ lines) (suc i) line e = ap (λ t. x ++ t) (concat_more lines i line e) ∙ sym (append_assoc x (concat (take i lines)) (printed line))

-- the input has ended, and the closing lines before this one are written
pub record ClosedTo {D : Type 0} (dev : Ghosts D) (a b : Option (List ℕ)) (stage : Stage) (line : List ℕ) (i : ℕ) (s : Session D) : Type 0 where
  pub output : List ℕ
  pub taken : EndTaken dev stage line output s
  pub appended : Appends a b (output ++ concat (take i (closing_lines taken.next)))

module _ {D : Type 0} {dev : Ghosts D} (a : Option (List ℕ)) (stage : Stage) (line : List ℕ) where
  pub closed_none : (b : Option (List ℕ)) (s : Session D) (output : List ℕ) → EndTaken dev stage line output s → Appends a b output → ClosedTo dev a b stage line 0 s
  closed_none b s output t w = record { output = output; taken = t; appended = subst (Appends a b) (sym (append-nil output)) w }

  pub end_failed : {T E : Type 0} (b : Option (List ℕ)) (s : Session D) (output : List ℕ) (result : Result T E) (e : E) (k : ℕ) → result ≡ Err e → EndTaken dev stage line output s → Appends a b (take k output) →
      EndWritten a b stage line result
  end_failed b s output result e k is t w = record {
    written = take k output;
    unwritten = drop k output ++ concat (closing_lines t.next);
    appended = w;
    ended = record {
      printed = output;
      last = t.next;
      answered = t.answered;
      all = sym (append_assoc (take k output) (drop k output) (concat (closing_lines t.next))) ∙ ap (λ x. x ++ concat (closing_lines t.next)) (take-append-drop k output);
    };
    all = rw is tt;
  }

  module _ (b c : Option (List ℕ)) (i : ℕ) (s : Session D) (before : ClosedTo dev a b stage line i s) (next : Option ArrayString)
      (is : option_map (λ l. l.bytes) next ≡ slice_get (closing_lines before.taken.next) i) where
    abbrev lines : List (List ℕ)
    lines = closing_lines before.taken.next

    abbrev so_far : List ℕ
    so_far = before.output ++ concat (take i lines)

    -- whatever was written of the line, what is left of it and the lines after it complete all
    put_together : (k : ℕ) → (so_far ++ take k (printed next)) ++ (drop k (printed next) ++ concat (drop (suc i) lines)) ≡ before.output ++ concat lines
    put_together k =
        let line = printed next in
        let rest = concat (drop (suc i) lines) in
        append_assoc so_far (take k line) (drop k line ++ rest) ∙
        ap (λ t. so_far ++ t) (sym (append_assoc (take k line) (drop k line) rest) ∙ ap (λ t. t ++ rest) (take-append-drop k line)) ∙
        append_assoc before.output (concat (take i lines)) (line ++ rest) ∙
        ap (λ t. before.output ++ t) (sym (concat_parted lines i next is))

    pub closed_more : Appends b c (printed next) → ClosedTo dev a c stage line (suc i) s
    closed_more w = record {
      output = before.output;
      taken = before.taken;
      appended = subst (Appends a c) (append_assoc before.output (concat (take i lines)) (printed next) ∙ ap (λ t. before.output ++ t) (sym (concat_more lines i next is)))
          (appends_join a b c so_far (printed next) before.appended w);
    }

    pub closing_failed : {T E : Type 0} (result : Result T E) (e : E) (k : ℕ) → result ≡ Err e → Appends b c (take k (printed next)) → EndWritten a c stage line result
    closing_failed result e k by_error w = record {
      written = so_far ++ take k (printed next);
      unwritten = drop k (printed next) ++ concat (drop (suc i) lines);
      appended = appends_join a b c so_far (take k (printed next)) before.appended w;
      ended = record { printed = before.output; last = before.taken.next; answered = before.taken.answered; all = put_together k };
      all = rw by_error tt;
    }

  pub closed_all : {T E : Type 0} (b c : Option (List ℕ)) (i : ℕ) (s : Session D) (result : Result T E) → (before : ClosedTo dev a b stage line i s) → length (closing_lines before.taken.next) ≤ i → Keeps b c →
      EndWritten a c stage line result
  closed_all b c i s result before h kept =
      let all = before.output ++ concat (closing_lines before.taken.next) in
      record {
        written = all;
        unwritten = [];
        appended = appends_kept a b c all (subst (λ l. Appends a b (before.output ++ concat l)) (take_all i (closing_lines before.taken.next) h) before.appended) kept;
        ended = record { printed = before.output; last = before.taken.next; answered = before.taken.answered; all = append-nil all };
        all = on_ok result refl;
      }

-- the output for bytes that were taken, and for bytes more
begins : {D : Type 0} {dev : Ghosts D} (s : Session D) (read written unwritten : List ℕ) → BytesTaken dev waiting [] read (written ++ unwritten) s → (input more : List ℕ) → input ≡ read ++ more → OutputBegins input written
begins s read written unwritten t input more is output o =
    let open_lines = closed (left_open [] read) more ++ at_end (left_open [] (read ++ more)) in
    let cut = ap (λ l. l ++ at_end (left_open [] (read ++ more))) (closed_join [] read more) ∙ append_assoc (closed [] read) (closed (left_open [] read) more) (at_end (left_open [] (read ++ more))) in
    let lines = subst (λ l. LinesAnswered waiting l o.printed o.last) (ap (λ x. closed [] x ++ at_end (left_open [] x)) is ∙ cut) o.answered in
    let p = answered_parted (closed [] read) open_lines waiting o.last o.printed lines in
    let same = (lines_determined (closed [] read) waiting p.1 (written ++ unwritten) p.0 t.next p.3 t.answered).0 in
    let end = concat (closing_lines o.last) in
    let rest = unwritten ++ (p.2 ++ end) in
    let all : output ≡ written ++ rest =
    o.all ∙ ap (λ x. x ++ end) (p.5 ∙ ap (λ x. x ++ p.2) same) ∙ append_assoc (written ++ unwritten) p.2 end ∙ append_assoc written unwritten (p.2 ++ end) in
    ap (take (length written)) all ∙ take-append_seam written rest

-- and for bytes after which the input ends
ends : {D : Type 0} {dev : Ghosts D} (s : Session D) (read output end : List ℕ) → (t : BytesTaken dev waiting [] read output s) → SessionEnded t.next (left_open [] read) end → ConsoleOutput read (output ++ end)
ends s read output end t e = record {
  printed = output ++ e.printed;
  last = e.last;
  answered = answered_join (closed [] read) (at_end (left_open [] read)) waiting t.next e.last output e.printed t.answered e.answered;
  all = ap (λ x. output ++ x) e.all ∙ sym (append_assoc output e.printed (concat (closing_lines e.last)));
}

if_some : {X : Type 0} {P Q : X → Type 0} (o : Option X) → ((x : X) → P x → Q x) → IfSome o P → IfSome o Q
if_some None f p = tt
if_some (Some x) f p = f x p

on_ok_map : {T E X Y : Type 0} (result : Result T E) → (X → Y) → OnOk result X → OnOk result Y
on_ok_map (Ok t) f x = f x
on_ok_map (Err e) f x = tt

stopped_stays : (lines : List (List ℕ)) → LinesAnswered stopped lines [] stopped
stopped_stays [] = (refl, refl)
stopped_stays (line ∷ lines) = ([], stopped, [], (refl, refl), stopped_stays lines, refl)

stopped_output : {D : Type 0} {dev : Ghosts D} (s : Session D) (read written : List ℕ) → (t : BytesTaken dev waiting [] read written s) → t.next ≡ stopped → (input more : List ℕ) → input ≡ read ++ more → ConsoleOutput input written
stopped_output s read written t at_stop input more is =
    let after = closed (left_open [] read) more ++ at_end (left_open [] (read ++ more)) in
    let cut = ap (λ l. l ++ at_end (left_open [] (read ++ more))) (closed_join [] read more) ∙ append_assoc (closed [] read) (closed (left_open [] read) more) (at_end (left_open [] (read ++ more))) in
    let first = subst (LinesAnswered waiting (closed [] read) written) at_stop t.answered in
    let lines = answered_join (closed [] read) after waiting stopped stopped written [] first (stopped_stays after) in
    record {
      printed = written;
      last = stopped;
      answered = subst (λ l. LinesAnswered waiting l written stopped) (sym (ap (λ x. closed [] x ++ at_end (left_open [] x)) is ∙ cut))
          (subst (λ o. LinesAnswered waiting (closed [] read ++ after) o stopped) (append-nil written) lines);
      all = sym (append-nil written);
    }

is_at_stop : (stage : Stage) → is_stopped stage ≡ true → stage ≡ stopped
is_at_stop waiting e = absurd (true≢false (sym e))
is_at_stop (running b) e = absurd (true≢false (sym e))
is_at_stop stopped e = refl

-- a read that gives nothing has come to the end
pub read_nothing : {E : Type 0} (b b' : Option (List ℕ)) (result : Result ℕ E) (n : ℕ) (piece : List ℕ) → result ≡ Ok n → n ≡ 0 → 0 < length piece → ReadConsumes b b' result piece → Consumes b b' [] × IsAtEnd b'
read_nothing b b' result n piece is none room read =
    let got : Consumes b b' (take n piece) × (n ≡ 0 → 0 < length piece → IsAtEnd b') = subst (λ r. ReadConsumes b b' r piece) is read in
    (subst (λ k. Consumes b b' (take k piece)) none got.0, got.1 none room)

-- a failure that is handed on is the same failure
pub no_read_failed : {T U : Type 0} (given : Result T Failure) (said : Result U Failure) (e f : Failure) → given ≡ Err f → said ≡ Err e → e ≡ f → NoReadFailed given → NoReadFailed said
no_read_failed given said e f given_is is same none kind by_reading =
    let read : e ≡ CannotRead kind = cc in
    none kind (given_is ∙ ap Err (sym same ∙ read))

-- the whole loop
pub run_begun : {D : Type 0} {dev : Ghosts D} (a c : Option (List ℕ)) (s : Session D) → SessionStands dev s waiting [] → RunSoFar dev a a c c s
run_begun a c s k = record { read = []; written = []; consumed = consumes_none a; appended = appends_none c; taken = record { next = waiting; answered = (refl, refl); stands = k } }

module _ {D : Type 0} {dev : Ghosts D} (a b c d : Option (List ℕ)) (s : Session D) (before : RunSoFar dev a b c d s) where
  abbrev stage : Stage
  stage = before.taken.next

  abbrev held : List ℕ
  held = left_open [] before.read

  -- nothing was read
  pub run_kept : (b' : Option (List ℕ)) → Keeps b b' → RunSoFar dev a b' c d s
  run_kept b' kept = record { read = before.read; written = before.written; consumed = consumes_kept a b b' before.read before.consumed kept; appended = before.appended; taken = before.taken }

  -- reading failed, or the tries are over
  pub read_failed : {T : Type 0} (b' : Option (List ℕ)) (result : Result T Failure) (e : Failure) → result ≡ Err e → Keeps b b' → LoopEnded a b' c d result
  read_failed b' result e is kept =
      let t = subst (λ o. BytesTaken dev waiting [] before.read o s) (sym (append-nil before.written)) before.taken in
      record {
        read = before.read;
        written = before.written;
        consumed = consumes_kept a b b' before.read before.consumed kept;
        appended = before.appended;
        begun = begins s before.read before.written [] t before.read [] (sym (append-nil before.read));
        begun_for_all = if_some a (λ input p. begins s before.read before.written [] t input p.0 p.1) (read_first a b before.read before.consumed);
        whole = rw is tt;
        whole_for_all = rw is tt;
        earned = λ kind f. (stage, before.taken.answered);
      }

  -- a piece was read
  module _ {T E : Type 0} (b' d' : Option (List ℕ)) (got : List ℕ) (taken_from : Consumes b b' got) (result : Result T E) (after : Session D) (p : PieceAnswered dev d d' stage held got result after) where
    joined : BytesTaken dev waiting [] (before.read ++ p.taken) ((before.written ++ p.written) ++ p.unwritten) after
    joined = subst (λ o. BytesTaken dev waiting [] (before.read ++ p.taken) o after) (sym (append_assoc before.written p.written p.unwritten))
        (taken_join dev s after waiting [] before.read p.taken before.written (p.written ++ p.unwritten) before.taken p.answered)

    got_parts : before.read ++ got ≡ (before.read ++ p.taken) ++ p.untaken
    got_parts = ap (λ t. before.read ++ t) p.parts ∙ sym (append_assoc before.read p.taken p.untaken)

    pub run_more : (p.untaken ≡ []) × (p.unwritten ≡ []) → RunSoFar dev a b' c d' after
    run_more all = record {
      read = before.read ++ got;
      written = before.written ++ p.written;
      consumed = consumes_join a b b' before.read got before.consumed taken_from;
      appended = appends_join c d d' before.written p.written before.appended p.appended;
      taken =
          subst (λ x. BytesTaken dev waiting [] x (before.written ++ p.written) after) (sym (got_parts ∙ ap (λ t. (before.read ++ p.taken) ++ t) all.0 ∙ append-nil (before.read ++ p.taken)))
          (subst (λ o. BytesTaken dev waiting [] (before.read ++ p.taken) o after) (ap (λ t. (before.written ++ p.written) ++ t) all.1 ∙ append-nil (before.written ++ p.written)) joined);
    }

    -- writing failed in it
    pub write_failed : {U : Type 0} (said : Result U Failure) (e : Failure) → said ≡ Err e → NoReadFailed said → LoopEnded a b' c d' said
    write_failed said e is other =
        let read = before.read ++ got in
        let written = before.written ++ p.written in
        let consumed = consumes_join a b b' before.read got before.consumed taken_from in
        let begun = begins after (before.read ++ p.taken) written p.unwritten joined in
        record {
          read = read;
          written = written;
          consumed = consumed;
          appended = appends_join c d d' before.written p.written before.appended p.appended;
          begun = begun read p.untaken got_parts;
          begun_for_all = if_some a
              (λ input q. begun input (p.untaken ++ q.0) (q.1 ∙ ap (λ t. t ++ q.0) got_parts ∙ append_assoc (before.read ++ p.taken) p.untaken q.0))
              (read_first a b' read consumed);
          whole = rw is tt;
          whole_for_all = rw is tt;
          earned = λ kind f. absurd (other kind f);
        }

  -- the input has ended
  pub run_ended : {T : Type 0} (b' d' : Option (List ℕ)) (result : Result T Failure) → Consumes b b' [] → IsAtEnd b' → EndWritten d d' stage held result → NoReadFailed result → LoopEnded a b' c d' result
  run_ended b' d' result nothing at_end e other =
      let read = before.read in
      let written = before.written ++ e.written in
      let consumed = subst (Consumes a b') (append-nil read) (consumes_join a b b' read [] before.consumed nothing) in
      let all = read_all a b' read consumed at_end in
      let full = ends s read before.written (e.written ++ e.unwritten) before.taken e.ended in
      let rest = sym (append_assoc before.written e.written e.unwritten) in
      let begun : OutputBegins read written = λ output o.
      ap (take (length written)) (output_determined read output _ o full ∙ rest) ∙ take-append_seam written e.unwritten in
      let whole : OnOk result (ConsoleOutput read written) =
      on_ok_map result (λ none. subst (ConsoleOutput read) (ap (λ t. before.written ++ (e.written ++ t)) none ∙ ap (λ t. before.written ++ t) (append-nil e.written)) full) e.all in
      record {
        read = read;
        written = written;
        consumed = consumed;
        appended = appends_join c d d' before.written e.written before.appended e.appended;
        begun = begun;
        begun_for_all = if_some a (λ input is. subst (λ x. OutputBegins x written) (sym is) begun) all;
        whole = whole;
        whole_for_all = on_ok_map result (λ o. if_some a (λ input is. subst (λ x. ConsoleOutput x written) (sym is) o) all) whole;
        earned = λ kind f. absurd (other kind f);
      }

  -- the first line was refused
  pub run_stopped : {T : Type 0} (result : Result T Failure) → true ≡ is_stopped stage → LoopEnded a b c d result
  run_stopped result is =
      let read = before.read in
      let written = before.written in
      let whole = stopped_output s read written before.taken (is_at_stop stage (sym is)) in
      let t = subst (λ o. BytesTaken dev waiting [] read o s) (sym (append-nil written)) before.taken in
      let inputs = read_first a b read before.consumed in
      record {
        read = read;
        written = written;
        consumed = before.consumed;
        appended = before.appended;
        begun = begins s read written [] t read [] (sym (append-nil read));
        begun_for_all = if_some a (λ input p. begins s read written [] t input p.0 p.1) inputs;
        whole = on_ok result (whole read [] (sym (append-nil read)));
        whole_for_all = on_ok result (if_some a (λ input p. whole input p.0 p.1) inputs);
        earned = λ kind f. (stage, before.taken.answered);
      }
