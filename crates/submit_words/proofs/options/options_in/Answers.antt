use Rattle.std.proofs.Common.{◌≡◌, inl, inr, List, [], ℕ, true, false, map, string_bytes, sym, ◌∙◌, ap}
use Rattle.std.proofs.Common.{subst}
use Rattle.clap.specs.Faults.{fault_of, is_simple_and_free}
use Rattle.clap.specs.Kinds.{HasKind}
use Rattle.clap.specs.Simple.{is_simple, matches_of}
use Rattle.clap.specs.Matches.{found_of}
use Rattle.clap.specs.Walk.{rows_of}
use Rattle.clap.specs.Values.{kind_of}
use Rattle.submit_words.specs.Options.{said_of, submit_app}
use Rattle.submit_words.proofs.ReadLemmas.{is_free, simple, taken_says, refused_says, refuses_none}
use Rattle.submit_words.proofs.options.options_in.Goals as goal

pub returns-in-Ok : goal.returns-in-Ok
returns-in-Ok c =
    let app = c.in_ok-command.ensures in
    let words : List (List ℕ) = map string_bytes c.args.words.now in
    let none : fault_of submit_app words ≡ [] =
    subst (λ a. fault_of a words ≡ []) app (c.in-Ok.ensures.kinds (ap is_simple_and_free app ∙ is_free)) in
    let same : rows_of (found_of c.in-Ok.matches) ≡ matches_of submit_app words =
    (c.in-Ok.ensures.matches (ap is_simple app ∙ simple)).0 ∙ ap (λ a. matches_of a words) app in
    taken_says words (rows_of (found_of c.in-Ok.matches)) (said_of c.in_ok-said-in-Ok.said) none same
    c.in_ok-said-in-Ok.ensures

pub returns : goal.returns
returns c =
    let app = c.in_ok-command.ensures in
    let words : List (List ℕ) = map string_bytes c.args.words.now in
    let has : HasKind (fault_of submit_app words) c.in-Err.refused =
    subst (λ a. HasKind (fault_of a words) c.in-Err.refused) app
    (c.in-Err.ensures.kinds (ap is_simple_and_free app ∙ is_free)) in
    elim has [
      | inl e ↦
          let bad : true ≡ false = rw (c.kind.ensures ∙ e) at (sym c.eq.ensures ∙ c.if-eq.false) in
          absurd (cc bad)
      | inr among ↦ refuses_none c.cause_of.result _ (refused_says words (kind_of c.in-Err.refused) among)
    ]
