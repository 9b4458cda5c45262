mod CauseLaws
mod ContentLaws
mod SettledLaws
mod DueLaws
mod StepLaws
mod JobLaws
mod TextLaws
mod WorkedLines
