-- A sender is found in a request, or refused, exactly where the request says so.
use Rattle.std.proofs.Common.{◌≡◌, ◌≢◌, ◌⊎◌, inl, inr, ℕ, Bool, true, false, List, Option, Some, None}
use Rattle.std.proofs.Common.{Result, Ok, Err, refl, sym, ap, subst, ◌∙◌}
use Rattle.std.specs.Prelude.{codes, option_map, ⊤}
use Rattle.dist_types.specs.declared.addr.Addr.{Addr}
use Rattle.dist_types.specs.declared.addr.Ip.{Ip}
use Rattle.dist_types.specs.declared.addr.Ip.TheVariants.{V4, V6}
use Rattle.dist_types.specs.declared.ids.JobId.{JobId}
use Rattle.dist_types.specs.declared.token_error.TokenError.{TokenError}
use Rattle.dist_types.specs.Addr.{ip_in, ip_of}
use Rattle.dist_types.proofs.AddrLemmas.{ip_of_text, ip_is}
use Rattle.http_head.specs.declared.request.Request.{Request}
use Rattle.http_head.specs.Bearer.{token_in}
use Rattle.http_head.specs.Fields.{header}
use Rattle.http_head.proofs.BearerLemmas.{equal_texts, same_text, token_shown, shown_token}
use Rattle.http_routes.specs.declared.admission.Admission.{Admission}
use Rattle.http_routes.specs.declared.admission.Admission.TheVariants.{Admitted, Refused}
use Rattle.http_routes.specs.declared.refusal.Refusal.{Refusal}
use Rattle.http_routes.specs.declared.refusal.Refusal.TheVariants.{BadRealIp}
use Rattle.http_routes.specs.declared.refusal.Refusal.TheVariants.{NoServer, OtherAddress, NoJobToken}
use Rattle.http_routes.specs.Refused.{ShowsNone, IsShutOut, ShowsServer, HasNoIp, IsFromNone}
use Rattle.http_routes.specs.Refused.{IsNotJobs}
use Rattle.http_routes.specs.Sender.{token_of, client_test, same_ip, origin, server_of, accepted, job_test}
use Rattle.http_routes.specs.Sender.{Shows, IsAdmitted, CameFrom, IsFrom, ShowsJob}
use Rattle.http_routes.specs.Steps.{◌>>=◌, unless_none, unless_false}
use Rattle.http_routes.proofs.StepLemmas.{ok_step, err_step, from_none, from_false, missing}

-- ---- the token

abbrev authorization : Request → Option (List ℕ)
authorization r = header (codes "authorization") r.headers

pub shows : (d : Refusal) (r : Request) (token : List ℕ) → token_of d r ≡ Ok token → Shows r token
shows d r token e = token_shown (authorization r) token (from_none d (token_in (authorization r)) token e)

pub shown : (d : Refusal) (r : Request) (token : List ℕ) → Shows r token → token_of d r ≡ Ok token
shown d r token h = rw (h, shown_token token) refl

one_token : (r : Request) (a b : List ℕ) → Shows r a → Shows r b → a ≡ b
one_token r a b s t = let both = sym (shown NoServer r a s) ∙ shown NoServer r b t in cc

no_token : (r : Request) → token_in (authorization r) ≡ None → ShowsNone r
no_token r none token s = absurd (let both = sym none ∙ (ap token_in s ∙ shown_token token) in cc)

none_shown : (d : Refusal) (r : Request) (e : Refusal) → token_of d r ≡ Err e → ShowsNone r × (e ≡ d)
none_shown d r e h = let m = missing d (token_in (authorization r)) e h in (no_token r m.0, m.1)

shown_none : (d : Refusal) (r : Request) → ShowsNone r → token_of d r ≡ Err d
shown_none d r none = by_option (token_in (authorization r)) refl
  where
    by_option : (o : Option (List ℕ)) → token_in (authorization r) ≡ o → unless_none d o ≡ Err d
    by_option None is = refl
    by_option (Some t) is = absurd (none t (token_shown (authorization r) t is))

-- ---- clients

abbrev said : (List ℕ → Admission) → Request → Result (Unit {0}) Refusal
said lets r = client_test (option_map lets (token_in (authorization r)))

pub client_admitted : (lets : List ℕ → Admission) (r : Request) → said lets r ≡ Ok tt → IsAdmitted r lets
client_admitted lets r e = by_option (token_in (authorization r)) refl e
  where
    by_admission : (token : List ℕ) → Shows r token → (a : Admission) → lets token ≡ a
        → client_test (Some a) ≡ Ok tt → IsAdmitted r lets
    by_admission token s Admitted is k = (token, s, is)
    by_admission token s (Refused word text) is k = absurd cc

    by_option : (o : Option (List ℕ)) → token_in (authorization r) ≡ o
        → client_test (option_map lets o) ≡ Ok tt → IsAdmitted r lets
    by_option None is k = absurd cc
    by_option (Some token) is k = by_admission token (token_shown (authorization r) token is)
        (lets token) refl k

pub admitted_client : (lets : List ℕ → Admission) (r : Request) → IsAdmitted r lets → said lets r ≡ Ok tt
admitted_client lets r (token, s, is) = rw (s, shown_token token, is) refl

pub client_refused : (lets : List ℕ → Admission) (r : Request) (e : Refusal) → said lets r ≡ Err e
    → IsShutOut r lets e
client_refused lets r e h = by_option (token_in (authorization r)) refl h
  where
    by_admission : (token : List ℕ) → Shows r token → (a : Admission) → lets token ≡ a
        → client_test (Some a) ≡ Err e → IsShutOut r lets e
    by_admission token s Admitted is k = absurd cc
    by_admission token s (Refused word text) is k = inr (token, s, word, text, is, cc)

    by_option : (o : Option (List ℕ)) → token_in (authorization r) ≡ o
        → client_test (option_map lets o) ≡ Err e → IsShutOut r lets e
    by_option None is k = inl (no_token r is, cc)
    by_option (Some token) is k = by_admission token (token_shown (authorization r) token is)
        (lets token) refl k

pub refused_client : (lets : List ℕ → Admission) (r : Request) (e : Refusal) → IsShutOut r lets e
    → said lets r ≡ Err e
refused_client lets r e (inl (none, same)) = by_option (token_in (authorization r)) refl
  where
    by_option : (o : Option (List ℕ)) → token_in (authorization r) ≡ o
        → client_test (option_map lets o) ≡ Err e
    by_option None is = ap Err (sym same)
    by_option (Some token) is = absurd (none token (token_shown (authorization r) token is))
refused_client lets r e (inr (token, s, word, text, is, same)) = rw (s, shown_token token, is)
    (ap Err (sym same))

-- ---- where a request came from

abbrev real : Request → Option (List ℕ)
real r = header (codes "x-real-ip") r.headers

equal_ips : (a b : Ip) → same_ip a b ≡ true → a ≡ b
equal_ips (V4 a) (V4 b) e = ap V4 (equal_texts a b e)
equal_ips (V6 a) (V6 b) e = ap V6 (equal_texts a b e)
equal_ips (V4 a) (V6 b) e = absurd cc
equal_ips (V6 a) (V4 b) e = absurd cc

pub one_ip : (a : Ip) → same_ip a a ≡ true
one_ip (V4 a) = same_text a
one_ip (V6 a) = same_text a

other_ip : (a b : Ip) → a ≢ b → same_ip a b ≡ false
other_ip a b other = by_test (same_ip a b) refl
  where
    by_test : (t : Bool) → same_ip a b ≡ t → t ≡ false
    by_test true is = absurd (other (equal_ips a b is))
    by_test false is = refl

came_from : (o : Option (List ℕ)) (peer : Addr) (ip : Ip) → origin o peer ≡ Ok ip → CameFrom o peer ip
came_from None peer ip e = cc
came_from (Some text) peer ip e = ip_is text ip (from_none BadRealIp (ip_in text) ip e)

from_came : (o : Option (List ℕ)) (peer : Addr) (ip : Ip) → CameFrom o peer ip → origin o peer ≡ Ok ip
from_came None peer ip e = ap Ok (sym e)
from_came (Some text) peer ip h = rw (ip_of_text text ip h) refl

no_origin : (r : Request) (peer : Addr) (e : Refusal) → origin (real r) peer ≡ Err e → HasNoIp r
    × (e ≡ BadRealIp)
no_origin r peer e h = by_header (real r) refl h
  where
    by_ip : (text : List ℕ) → real r ≡ Some text → (o : Option Ip) → ip_in text ≡ o
        → unless_none BadRealIp o ≡ Err e → HasNoIp r × (e ≡ BadRealIp)
    by_ip text at None is k = (
      (text, at, λ ip t. absurd (let both = sym is ∙ ip_of_text text ip t in cc)),
      cc,
    )
    by_ip text at (Some ip) is k = absurd cc

    by_header : (o : Option (List ℕ)) → real r ≡ o → origin o peer ≡ Err e → HasNoIp r × (e ≡ BadRealIp)
    by_header None at k = absurd cc
    by_header (Some text) at k = by_ip text at (ip_in text) refl k

origin_none : (r : Request) (peer : Addr) → HasNoIp r → origin (real r) peer ≡ Err BadRealIp
origin_none r peer (text, at, none) = rw at (by_ip (ip_in text) refl)
  where
    by_ip : (o : Option Ip) → ip_in text ≡ o → unless_none BadRealIp o ≡ Err BadRealIp
    by_ip None is = refl
    by_ip (Some ip) is = absurd (none ip (ip_is text ip is))

-- ---- servers

abbrev from_here : Request → Addr → Addr → Result Addr Refusal
from_here r peer server = origin (real r) peer >>= λ ip. unless_false OtherAddress
    (same_ip ip (ip_of server)) server

abbrev by_token : (List ℕ → Option Addr) → Request → Addr → List ℕ → Result Addr Refusal
by_token serves r peer token = unless_none NoServer (serves token) >>= from_here r peer

pub sender_shown : (serves : List ℕ → Option Addr) (r : Request) (peer server : Addr)
    → server_of serves r peer ≡ Ok server → IsFrom r peer serves server
unfolding server_of
sender_shown serves r peer server e =
    let a = ok_step (token_of NoServer r) (by_token serves r peer) server e in
    let b = ok_step (unless_none NoServer (serves a.0)) (from_here r peer) server a.2 in
    let c = ok_step (origin (real r) peer) (λ ip. unless_false OtherAddress (same_ip ip (ip_of b.0)) b.0)
    server b.2 in
    let d = from_false OtherAddress (same_ip c.0 (ip_of b.0)) b.0 server c.2 in
    record {
      shown = a.0;
      bearer = shows NoServer r a.0 a.1;
      own = from_none NoServer (serves a.0) b.0 b.1 ∙ ap Some d.1;
      ip = came_from (real r) peer (ip_of server)
          (c.1 ∙ ap Ok (equal_ips c.0 (ip_of b.0) d.0 ∙ ap ip_of d.1));
    }

pub shown_sender : (serves : List ℕ → Option Addr) (r : Request) (peer server : Addr)
    → IsFrom r peer serves server → server_of serves r peer ≡ Ok server
unfolding server_of
shown_sender serves r peer server f =
    rw (
      shown NoServer r f.shown f.bearer,
      f.own,
      from_came (real r) peer (ip_of server) f.ip,
      one_ip (ip_of server),
    ) refl

pub server_refused : (serves : List ℕ → Option Addr) (r : Request) (peer : Addr) (e : Refusal)
    → server_of serves r peer ≡ Err e → IsFromNone r peer serves e
unfolding server_of
server_refused serves r peer e h = by_first (err_step (token_of NoServer r) (by_token serves r peer) e h)
  where
    by_test : (server : Addr) → ShowsServer r serves server → (ip : Ip) → CameFrom (real r) peer ip
        → (b : Bool) → same_ip ip (ip_of server) ≡ b
        → unless_false OtherAddress b server ≡ Err e → IsFromNone r peer serves e
    by_test server s ip at true is k = absurd cc
    by_test server s ip at false is k =
        inr (inr (
          server,
          s,
          (
            ip,
            at,
            λ same. absurd (let yes = subst (λ (x : Ip). same_ip x (ip_of server) ≡ true) (sym same)
                (one_ip (ip_of server)) in cc),
          ),
          cc,
        ))

    by_third : (server : Addr) → ShowsServer r serves server
        → (origin (real r) peer ≡ Err e)
        ⊎ ((ip : Ip) × (origin (real r) peer ≡ Ok ip)
        × (unless_false OtherAddress (same_ip ip (ip_of server)) server ≡ Err e))
        → IsFromNone r peer serves e
    by_third server s (inl none) = let n = no_origin r peer e none in inr (inl (server, s, n.0, n.1))
    by_third server s (inr (ip, is, k)) = by_test server s ip (came_from (real r) peer ip is)
        (same_ip ip (ip_of server)) refl k

    by_second : (text : List ℕ) → Shows r text → (o : Option Addr) → serves text ≡ o
        → (unless_none NoServer o >>= from_here r peer) ≡ Err e → IsFromNone r peer serves e
    by_second text s None is k = inl (λ token t. ap serves (one_token r token text t s) ∙ is, cc)
    by_second text s (Some server) is k =
        by_third server (text, s, is)
        (err_step (origin (real r) peer)
        (λ ip. unless_false OtherAddress (same_ip ip (ip_of server)) server) e k)

    by_first : (token_of NoServer r ≡ Err e)
        ⊎ ((text : List ℕ) × (token_of NoServer r ≡ Ok text) × (by_token serves r peer text ≡ Err e))
        → IsFromNone r peer serves e
    by_first (inl none) = let n = none_shown NoServer r e none in inl (λ token t. absurd (n.0 token t), n.1)
    by_first (inr (text, is, k)) = by_second text (shows NoServer r text is) (serves text) refl k

pub refused_server : (serves : List ℕ → Option Addr) (r : Request) (peer : Addr) (e : Refusal)
    → IsFromNone r peer serves e → server_of serves r peer ≡ Err e
unfolding server_of
refused_server serves r peer e (inl (none, same)) = by_header (token_in (authorization r)) refl
  where
    by_header : (o : Option (List ℕ)) → token_in (authorization r) ≡ o
        → (unless_none NoServer o >>= by_token serves r peer) ≡ Err e
    by_header None is = ap Err (sym same)
    by_header (Some text) is = rw (none text (token_shown (authorization r) text is)) (ap Err (sym same))
refused_server serves r peer e (inr (inl (server, (text, s, own), none, same))) =
    rw (shown NoServer r text s, own, origin_none r peer none) (ap Err (sym same))
refused_server serves r peer e (inr (inr (server, (text, s, own), (ip, at, other), same))) =
    rw (shown NoServer r text s, own, from_came (real r) peer ip at, other_ip ip (ip_of server) other)
    (ap Err (sym same))

-- ---- jobs

accepted_is : (x : Result ⊤ TokenError) → accepted x ≡ Ok tt → x ≡ Ok tt
accepted_is (Ok u) e = refl
accepted_is (Err d) e = absurd cc

pub job_shown : (verdict : ℕ → List ℕ → Result ⊤ TokenError) (r : Request) (job : JobId)
    → job_test verdict r job ≡ Ok tt → ShowsJob r verdict job
unfolding job_test
job_shown verdict r job e =
    let s = ok_step (token_of NoJobToken r) (λ token. accepted (verdict job.0 token)) tt e in
    (s.0, shows NoJobToken r s.0 s.1, accepted_is (verdict job.0 s.0) s.2)

pub shown_job : (verdict : ℕ → List ℕ → Result ⊤ TokenError) (r : Request) (job : JobId)
    → ShowsJob r verdict job → job_test verdict r job ≡ Ok tt
unfolding job_test
shown_job verdict r job (token, s, is) = rw (shown NoJobToken r token s, is) refl

pub job_refused : (verdict : ℕ → List ℕ → Result ⊤ TokenError) (r : Request) (job : JobId) (e : Refusal)
    → job_test verdict r job ≡ Err e → IsNotJobs r verdict job e
unfolding job_test
job_refused verdict r job e h =
    by_step (err_step (token_of NoJobToken r) (λ token. accepted (verdict job.0 token)) e h)
  where
    by_verdict : (token : List ℕ) → Shows r token → (x : Result ⊤ TokenError) → verdict job.0 token ≡ x
        → accepted x ≡ Err e → IsNotJobs r verdict job e
    by_verdict token s (Ok u) is k = absurd cc
    by_verdict token s (Err why) is k = inr (token, s, why, is, cc)

    by_step : (token_of NoJobToken r ≡ Err e)
        ⊎ ((token : List ℕ) × (token_of NoJobToken r ≡ Ok token) × (accepted (verdict job.0 token) ≡ Err e))
        → IsNotJobs r verdict job e
    by_step (inl none) = inl (none_shown NoJobToken r e none)
    by_step (inr (token, is, k)) = by_verdict token (shows NoJobToken r token is) (verdict job.0 token) refl k

pub refused_job : (verdict : ℕ → List ℕ → Result ⊤ TokenError) (r : Request) (job : JobId) (e : Refusal)
    → IsNotJobs r verdict job e → job_test verdict r job ≡ Err e
unfolding job_test
refused_job verdict r job e (inl (none, same)) = rw (shown_none NoJobToken r none) (ap Err (sym same))
refused_job verdict r job e (inr (token, s, why, is, same)) = rw (shown NoJobToken r token s, is)
    (ap Err (sym same))
