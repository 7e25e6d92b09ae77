-- What `clap` finds in the words, and what is made of it.
use Rattle.std.proofs.Common.{◌≡◌, List, [], ◌∷◌, ℕ, Bool, true, false, ◌&&◌, Option, None, refl, sym, subst, true≢false}
use Rattle.clap.specs.Words.{App, is_simple_and_free, fault_of}
use Rattle.clap.specs.Kinds.{Kinds}
use Rattle.command_words.specs.declared.named.CommandName.{CommandName}
use Rattle.command_words.specs.declared.named.CommandName.TheVariants as name
use Rattle.command_words.specs.Named.{app_named}
use Rattle.command_words.specs.Words.{drive_app, lookup_app, quota_app, pool_app, audit_app, serve_app, gen_app, if_taken}

pub drive_simple : is_simple_and_free drive_app ≡ true
unfolding drive_app
drive_simple = refl

pub lookup_simple : is_simple_and_free lookup_app ≡ true
unfolding lookup_app
lookup_simple = refl

pub quota_simple : is_simple_and_free quota_app ≡ true
unfolding quota_app
quota_simple = refl

pub pool_simple : is_simple_and_free pool_app ≡ true
unfolding pool_app
pool_simple = refl

pub audit_simple : is_simple_and_free audit_app ≡ true
unfolding audit_app
audit_simple = refl

pub gen_simple : is_simple_and_free gen_app ≡ true
unfolding gen_app
gen_simple = refl

pub serve_simple : is_simple_and_free serve_app ≡ true
unfolding serve_app
serve_simple = refl

-- each command that takes words
pub named_simple : (n : CommandName) → is_simple_and_free (app_named n) ≡ true
named_simple name.Drive = drive_simple
named_simple name.Lookup = lookup_simple
named_simple name.Quota = quota_simple
named_simple name.Pool = pool_simple
named_simple name.Audit = audit_simple
named_simple name.Serve = serve_simple
named_simple name.Gen = gen_simple

pub first_holds : (a b : Bool) → (a && b) ≡ true → a ≡ true
first_holds true b h = refl
first_holds false b h = absurd (true≢false (sym h))

pub refused : {X : Type 0} (kinds : Kinds) (made : Option X) → (kinds ≡ [] → ⊥) → if_taken kinds made ≡ None
refused [] made some = absurd (some refl)
refused (k ∷ ks) made some = refl

-- faults of a command that is this one
pub faults_of : {X : Type 0} (app other : App) (words others : List (List ℕ)) (made : Option X) → app ≡ other → words ≡ others
    → (fault_of app words ≡ [] → ⊥) → if_taken (fault_of other others) made ≡ None
faults_of app other words others made same as_words some =
    refused (fault_of other others) made (subst (λ (a : App). fault_of a others ≡ [] → ⊥) same
    (subst (λ (ws : List (List ℕ)). fault_of app ws ≡ [] → ⊥) as_words some))
